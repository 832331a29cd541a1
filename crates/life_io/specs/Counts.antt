-- Counts of faults. A count is at most 2 ^ 64 - 1, and at that value it stays.
use Rattle.std.specs.Prelude.{ℕ, ◌+◌, ◌-◌, ◌^◌, ◌<◌, ◌≤◌, min}

-- the count after one fault more
abbrev pub one_more : ℕ → ℕ
one_more before = min (before + 1) (2 ^ 64 - 1)

-- the count rose by one fault or more, or stands at its end
abbrev pub Rose : ℕ → ℕ → Type 0
Rose before now = one_more before ≤ now

-- a count never falls, and never passes its end
pub record IsLaterCount (before now : ℕ) : Type 0 where
  pub later : before ≤ now
  pub bounded : now < 2 ^ 64
