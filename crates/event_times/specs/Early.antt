-- How late turns and hits may be: each turn adds less than 2^35 generations.
use Rattle.std.specs.Prelude.{ℕ, ◌+◌, ◌*◌, ◌≤◌, ◌^◌, ℤ, pos, neg_ℤ, Option}
use Rattle.std.specs.List.{AllByRecursion}
use Rattle.std.specs.declared.option.Option.TheVariants.{Some, None}
use Rattle.life_cells.specs.Boxes.{IsBoxInRange}
use Rattle.book_parts.specs.Limits.{IsFrom, IsCoordinate}
use Rattle.recipe_hit.specs.declared.frame.HitFrame.{HitFrame}
use Rattle.event_times.specs.declared.least.TurnTime.{TurnTime}
use Rattle.event_times.specs.declared.least.Sent.{Sent}
use Rattle.event_times.specs.declared.least.HitTime.{HitTime}
use Rattle.event_times.specs.declared.clock.Clock.{Clock}
use Rattle.book_parts.specs.declared.limits.TheConstants.{GREATEST_SPAN}

-- a shift of the elbow in a plan
abbrev pub IsNearShift : ℤ → Type 0
IsNearShift z = IsFrom (neg_ℤ GREATEST_SPAN) GREATEST_SPAN z

-- from -n to n
abbrev pub IsBy : ℕ → ℤ → Type 0
IsBy n z = IsFrom (neg_ℤ (pos n)) (pos n) z

-- the latest end of so many turns
abbrev pub latest : ℕ → ℕ
latest turns = turns * 2 ^ 35

-- the latest end of all
abbrev pub latest_end : ℕ
latest_end = 2 ^ 56

-- how long after its throw a hit ends at the latest
abbrev pub longest_flight : ℕ
longest_flight = 34359672832

abbrev pub IsEarlyTurn : ℕ → Option TurnTime → Type 0
IsEarlyTurn time None = Unit {0}
IsEarlyTurn time (Some turn) = (turn.end ≤ time) × IsCoordinate turn.step

abbrev pub IsEarlySent : ℕ → Option Sent → Type 0
IsEarlySent time None = Unit {0}
IsEarlySent time (Some sent) = (sent.end ≤ time) × (IsBy (2 ^ 31) sent.glider.lane × IsBy 9126805504 sent.glider.j)

abbrev pub IsEarlyHit : ℕ → HitTime → Type 0
IsEarlyHit time hit = (hit.end ≤ time + longest_flight) × IsBoxInRange (2 ^ 33) hit.bounds

-- a frame of a hit, moved to the hand's place in a plan
pub record IsEarlyFrame (frame : HitFrame) : Type 0 where
  pub start : IsBy 3221291008 frame.start
  pub bounds : IsBoxInRange (2 ^ 33) frame.bounds

-- the numbers of a clock with so many turns
pub record IsEarly (turns : ℕ) (clock : Clock) : Type 0 where
  pub before : IsEarlyTurn (latest turns) clock.before
  pub sent : IsEarlySent (latest turns) clock.sent
  pub hits : AllByRecursion (IsEarlyHit (latest turns)) clock.hits.items
