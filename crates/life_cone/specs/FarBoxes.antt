-- Boxes that are far from each other.
use Rattle.std.specs.Prelude.{ℕ, ℤ, pos, neg_ℤ, ◌+ℤ◌, ◌≤ℤ◌}
use Rattle.life_plane.specs.Apart.{Within}
use Rattle.life_cells.specs.Boxes.{InBox}
use Rattle.life_cells.specs.declared.bounds.Bounds.{Bounds}
use Rattle.life_cone.specs.declared.boxes.Span.{Span}

-- no cell of the one box is within distance 2 of a cell of the other; a box without cells is far from all
pub record AreFarBoxes (a b : Bounds) : Type 0 where
  pub far : (x y p q : ℤ) → InBox a x y → InBox b p q → Within (pos 2) x y p q → ⊥

-- the number is in the span, both ends within
pub record InSpan (span : Span) (x : ℤ) : Type 0 where
  pub from : span.low ≤ℤ x
  pub to : x ≤ℤ span.high

-- no number of the one span is within 2 of a number of the other
pub record AreFarSpans (a b : Span) : Type 0 where
  pub far : (x p : ℤ) → InSpan a x → InSpan b p → p ≤ℤ (x +ℤ pos 2) → x ≤ℤ (p +ℤ pos 2) → ⊥

-- both ends are from -n to n
pub record IsSpanInRange (n : ℕ) (span : Span) : Type 0 where
  pub low_low : neg_ℤ (pos n) ≤ℤ span.low
  pub low_high : span.low ≤ℤ pos n
  pub high_low : neg_ℤ (pos n) ≤ℤ span.high
  pub high_high : span.high ≤ℤ pos n
