-- Patterns that have settled: every four generations they come back, but for a part that flies off. v = x + y.
use Rattle.std.specs.Prelude.{◌≡◌, ◌⊎◌, Bool, true, false, ◌&&◌, int_le, int_lt, ℕ, ◌+◌, ◌%◌, ◌≤◌, ℤ, pos, ◌+ℤ◌, ◌-ℤ◌, ◌≤ℤ◌}
use Rattle.life_plane.specs.Plane.{Plane, run, union, shift}
use Rattle.life_plane.specs.Strips.{Each, VAtMost}
use Rattle.life_cells.specs.declared.cell.Cell.{Cell}
use Rattle.book_parts.specs.Proper.{HasLife}
use Rattle.find_turn.specs.declared.search.TheConstants.{BETWEEN_LOOKS}
use Rattle.find_turn.specs.declared.settled.TheConstants.{FLIGHT_MARGIN}

-- v is at least the limit
abbrev pub is_ahead : ℤ → Cell → Bool
is_ahead limit c = int_le limit (c.x +ℤ c.y)

-- v is less
abbrev pub is_back : ℤ → Cell → Bool
is_back limit c = int_lt (c.x +ℤ c.y) limit

-- the cells with v at least the limit
abbrev pub ahead : ℤ → Plane → Plane
ahead limit s x y = s x y && int_le limit (x +ℤ y)

-- the others
abbrev pub back : ℤ → Plane → Plane
back limit s x y = s x y && int_lt (x +ℤ y) limit

-- what is ahead of a limit is ahead of the rest by the margin; four generations later it is one further right and down, and the rest is as it was
pub record FliesOff (s : Plane) : Type 0 where
  pub limit : ℤ
  pub lives : HasLife (ahead limit s)
  pub gap : Each (VAtMost (limit -ℤ FLIGHT_MARGIN)) (back limit s)
  pub on : run 4 s ≡ union (back limit s) (shift (pos 1) (pos 1) (ahead limit s))

-- four generations later it is the same, or it is but for what flies off
abbrev pub HasSettled : Plane → Type 0
HasSettled s = (run 4 s ≡ s) ⊎ FliesOff s

-- the least v of the cells of a plane that are gone in a later one
pub record IsLeastGone (s later : Plane) (limit : ℤ) : Type 0 where
  pub x : ℤ
  pub y : ℤ
  pub lives : s x y ≡ true
  pub gone : later x y ≡ false
  pub here : x +ℤ y ≡ limit
  pub least : (a b : ℤ) → s a b ≡ true → later a b ≡ false → limit ≤ℤ (a +ℤ b)

-- the counts before and after a search: it makes no generation after one, from the least on, at which it is looked whether the pattern has settled, and it has
abbrev pub StopsWhenSettled : Plane → ℕ → ℕ → ℕ → Type 0
StopsWhenSettled start least before after = (n : ℕ) → least ≤ n → n % BETWEEN_LOOKS ≡ 0 → HasSettled (run n start) → after ≤ before + n
