-- The least start of a turn, from what has been.
use Rattle.std.specs.Prelude.{ℕ, ◌+◌, ◌≤◌, ◌^◌, ℤ, pos, neg_ℤ, List, Option}
use Rattle.std.specs.List.{AllByRecursion}
use Rattle.std.specs.declared.option.Option.TheVariants.{Some, None}
use Rattle.life_cells.specs.Boxes.{IsBoxInRange}
use Rattle.book_parts.specs.Limits.{IsFrom}
use Rattle.event_times.specs.TimedTurns.{Thrown, IsAfter, HasPassed}
use Rattle.event_times.specs.Events.{HasBeen, IsSpared}
use Rattle.event_times.specs.declared.least.TurnTime.{TurnTime}
use Rattle.event_times.specs.declared.least.Emission.{Emission}
use Rattle.event_times.specs.declared.least.Sent.{Sent}
use Rattle.event_times.specs.declared.least.HitTime.{HitTime}

-- the thrown glider and the hit that these tell of
abbrev pub thrown_of : Sent → Thrown
thrown_of sent = record { time = sent.end; lane = sent.glider.lane; j = sent.glider.j }

abbrev pub been : HitTime → HasBeen
been hit = record { ended = pos hit.end; bounds = hit.bounds }

-- ---- the three clauses

abbrev pub IsBehindTime : Option TurnTime → ℕ → Type 0
IsBehindTime None start = Unit {0}
IsBehindTime (Some turn) start = IsAfter turn.end turn.step start

abbrev pub IsBehindSent : ℤ → Option Sent → ℕ → Type 0
IsBehindSent reach None start = Unit {0}
IsBehindSent reach (Some sent) start = HasPassed reach (thrown_of sent) start

abbrev pub SparesThese : ℕ → Option Emission → List HitTime → Type 0
SparesThese thrown None hits = Unit {0}
SparesThese thrown (Some glider) hits = AllByRecursion (λ (hit : HitTime). IsSpared thrown glider.lane glider.j (been hit)) hits

-- a turn of so many generations may start then
pub record MayStartThen (reach : ℤ) (before : Option TurnTime) (sent : Option Sent) (n : ℕ) (emits : Option Emission) (hits : List HitTime) (start : ℕ) : Type 0 where
  pub behind_turn : IsBehindTime before start
  pub behind_glider : IsBehindSent reach sent start
  pub spares : SparesThese (start + n) emits hits

-- it may, and at no time before
pub record IsLeastOf (reach : ℤ) (before : Option TurnTime) (sent : Option Sent) (n : ℕ) (emits : Option Emission) (hits : List HitTime) (start : ℕ) : Type 0 where
  pub may : MayStartThen reach before sent n emits hits start
  pub least : (other : ℕ) → MayStartThen reach before sent n emits hits other → start ≤ other

-- ---- numbers within the range

abbrev pub IsNear : ℤ → Type 0
IsNear z = IsFrom (neg_ℤ (pos (2 ^ 56))) (pos (2 ^ 56)) z

abbrev pub IsNearTurn : Option TurnTime → Type 0
IsNearTurn None = Unit {0}
IsNearTurn (Some turn) = (turn.end ≤ 2 ^ 56) × IsNear turn.step

abbrev pub IsNearEmission : Emission → Type 0
IsNearEmission glider = IsNear glider.lane × IsNear glider.j

abbrev pub IsNearSent : Option Sent → Type 0
IsNearSent None = Unit {0}
IsNearSent (Some sent) = (sent.end ≤ 2 ^ 56) × IsNearEmission sent.glider

abbrev pub AreNearEmissions : Option Emission → Type 0
AreNearEmissions None = Unit {0}
AreNearEmissions (Some glider) = IsNearEmission glider

abbrev pub IsNearHit : HitTime → Type 0
IsNearHit hit = (hit.end ≤ 2 ^ 56) × IsBoxInRange (2 ^ 56) hit.bounds

-- all numbers are from -2^56 to 2^56
pub record AreNear (reach : ℤ) (before : Option TurnTime) (sent : Option Sent) (emits : Option Emission) (hits : List HitTime) : Type 0 where
  pub near_reach : IsNear reach
  pub near_turn : IsNearTurn before
  pub near_sent : IsNearSent sent
  pub near_glider : AreNearEmissions emits
  pub near_hits : AllByRecursion IsNearHit hits
