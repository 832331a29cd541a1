-- The numbers of a candidate are those of a list that a book may have.
use Rattle.std.specs.Prelude.{ℕ, ◌<◌, ◌≤◌, ℤ, pos, ◌≤ℤ◌, List, length}
use Rattle.std.specs.List.{AllByRecursion}
use Rattle.book_parts.specs.Limits.{IsCoordinate}
use Rattle.book_parts.specs.Proper.{IsKindNumber}
use Rattle.book_parts.specs.declared.limits.TheConstants.{MOST_LANES, MOST_DELAYS}
use Rattle.find_order.specs.declared.candidate.Candidate.{Candidate}
use Rattle.find_order.specs.declared.candidate.Candidate.TheVariants.{Lanes, Delays}

-- lanes of a salvo
pub record AreLanesOfSalvo (lanes : List ℤ) : Type 0 where
  pub some : 0 < length lanes
  pub few : length lanes ≤ MOST_LANES
  pub each : AllByRecursion IsCoordinate lanes

-- a kind and delays of a turn, though the last delays may be too long for one
pub record AreDelaysOfTurn (kinds kind : ℕ) (delays : List ℤ) : Type 0 where
  pub number : IsKindNumber kinds kind
  pub some : 0 < length delays
  pub few : length delays ≤ MOST_DELAYS
  pub each : AllByRecursion (λ (delay : ℤ). pos 0 ≤ℤ delay) delays

-- a candidate fits a book with so many kinds
abbrev pub IsFitting : ℕ → Candidate → Type 0
IsFitting kinds (Lanes lanes) = AreLanesOfSalvo lanes
IsFitting kinds (Delays kind delays) = AreDelaysOfTurn kinds kind delays
