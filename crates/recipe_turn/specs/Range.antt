-- The ranges of the numbers in a turn's test.
use Rattle.std.specs.Prelude.{ℤ, pos, neg_ℤ, ◌^◌, ◌≤ℤ◌}
use Rattle.book_parts.specs.Limits.{IsCoordinate}
use Rattle.book_parts.specs.Proper.{IsIndex}
use Rattle.book_parts.specs.declared.turn.TurnEnd.{TurnEnd}
use Rattle.book_parts.specs.declared.turn.TurnEnd.TheVariants.{Close, Move, Emit}

-- a place with coordinates from -2^41 to 2^41
pub record IsWithinReach (x y : ℤ) : Type 0 where
  pub left : neg_ℤ (pos (2 ^ 41)) ≤ℤ x
  pub right : x ≤ℤ pos (2 ^ 41)
  pub above : neg_ℤ (pos (2 ^ 41)) ≤ℤ y
  pub below : y ≤ℤ pos (2 ^ 41)

-- the numbers of what a turn leaves are within the limits of a book
abbrev pub IsWithinLimits : TurnEnd → Type 0
IsWithinLimits Close = Unit {0}
IsWithinLimits (Move kind advance) = IsCoordinate advance
IsWithinLimits (Emit kind advance lane j) = IsCoordinate advance × (IsCoordinate lane × IsIndex j)
