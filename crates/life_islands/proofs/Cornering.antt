-- The corner of a set's least box, at numbers that calls were passed.
use Rattle.std.proofs.Common.{◌≡◌, ◌^◌, sym, ap, subst, ◌∙◌, arith, w64, to_z, of_z}
use Rattle.std.specs.Prelude.{FitsSigned, ℤ, pos, neg_ℤ, ◌-ℤ◌, ◌≤ℤ◌}
use Rattle.std.proofs.lemmas.Int.{ints, to_z-of_z}
use Rattle.life_cells.specs.Boxes.{IsLeastBox, IsInRange, CanMove}
use Rattle.life_cells.specs.BoxLaws.{can_move}
use Rattle.life_cells.specs.Cells.{cell}
use Rattle.life_cells.specs.declared.bounds.Bounds.{Bounds}
use Rattle.life_cells.specs.declared.cell.Cell.{Cell}
use Rattle.life_islands.specs.Shapes.{IsTopLeft, IsShapeOf}
use Rattle.life_islands.specs.ShapeLaws.{shape_at}
use Rattle.life_plane.specs.Plane.{Plane, shift}

-- the corner of the box of a plane in the range
pub record IsSmallCorner (x y : ℤ) : Type 0 where
  pub x_low : neg_ℤ (pos (2 ^ 60)) ≤ℤ x
  pub x_high : x ≤ℤ pos (2 ^ 60)
  pub y_low : neg_ℤ (pos (2 ^ 60)) ≤ℤ y
  pub y_high : y ≤ℤ pos (2 ^ 60)

whole_range : Bounds
whole_range = record { left = neg_ℤ (pos (2 ^ 60)); top = neg_ℤ (pos (2 ^ 60)); right = pos (2 ^ 60); bottom = pos (2 ^ 60) }

pub small_corner : (s : Plane) (box : Bounds) → IsInRange (2 ^ 60) s → IsLeastBox box s → IsSmallCorner box.left box.top
unfolding whole_range
small_corner s box range h =
    let w = h.least whole_range (record { each = λ x y lives. record { right_of_left = range.x_low x y lives; below_top = range.y_low x y lives; left_of_right = range.x_high x y lives; above_bottom = range.y_high x y lives } }) in
    let i = h.holds.each h.lives.0 h.lives.1.0 h.lives.1.1 in
    let a = range.x_high h.lives.0 h.lives.1.0 h.lives.1.1 in
    let b = range.y_high h.lives.0 h.lives.1.0 h.lives.1.1 in
    record { x_low = w.left; x_high = omega (arith, ints, i.right_of_left); y_low = w.top; y_high = omega (arith, ints, i.below_top) }

-- a number, as it is passed to a call
abbrev pub passed : ℤ → ℤ
passed z = to_z w64 (of_z w64 z)

passed_is : (z : ℤ) → neg_ℤ (pos (2 ^ 60)) ≤ℤ z → z ≤ℤ pos (2 ^ 60) → passed z ≡ z
passed_is z low high = let fits : FitsSigned w64 z = omega (arith, ints) in to_z-of_z w64 z fits

-- the corner is that of the box
pub corner_is : (s : Plane) (box : Bounds) (corner : Cell) → IsInRange (2 ^ 60) s → IsLeastBox box s → corner ≡ cell (passed box.left) (passed box.top) → corner ≡ cell box.left box.top
corner_is s box corner range h is =
    let small = small_corner s box range h in
    is ∙ (λ i. cell (passed_is box.left small.x_low small.x_high i) (passed_is box.top small.y_low small.y_high i))

pub corner_small : (s : Plane) (box : Bounds) (corner : Cell) → IsInRange (2 ^ 60) s → IsLeastBox box s → corner ≡ cell (passed box.left) (passed box.top) → IsSmallCorner corner.x corner.y
corner_small s box corner range h is = subst (λ (c : Cell). IsSmallCorner c.x c.y) (sym (corner_is s box corner range h is)) (small_corner s box range h)

pub corner_top_left : (s : Plane) (box : Bounds) (corner : Cell) → IsInRange (2 ^ 60) s → IsLeastBox box s → corner ≡ cell (passed box.left) (passed box.top) → IsTopLeft corner s
corner_top_left s box corner range h is = let at = corner_is s box corner range h is in record { box = box; least = h; left = sym (ap (λ (c : Cell). c.x) at); top = sym (ap (λ (c : Cell). c.y) at) }

-- a coordinate of the corner, negated
pub negated_fits : (z : ℤ) → neg_ℤ (pos (2 ^ 60)) ≤ℤ z → z ≤ℤ pos (2 ^ 60) → FitsSigned w64 (pos 0 -ℤ passed z)
negated_fits z low high = subst (λ x. FitsSigned w64 (pos 0 -ℤ x)) (sym (passed_is z low high)) (omega (arith, ints))

pub negated_is : (z : ℤ) → neg_ℤ (pos (2 ^ 60)) ≤ℤ z → z ≤ℤ pos (2 ^ 60) → passed (pos 0 -ℤ passed z) ≡ neg_ℤ z
negated_is z low high =
    let same : pos 0 -ℤ z ≡ neg_ℤ z = omega (arith, ints) in
    ap (λ x. passed (pos 0 -ℤ x)) (passed_is z low high) ∙ ap passed same ∙ passed_is (neg_ℤ z) (omega (arith, ints)) (omega (arith, ints))

-- the set can be moved back by its corner
pub moves_back : (s : Plane) (corner : Cell) → IsInRange (2 ^ 60) s → IsSmallCorner corner.x corner.y → CanMove (passed (pos 0 -ℤ passed corner.x)) (passed (pos 0 -ℤ passed corner.y)) s
moves_back s corner range small =
    let can = can_move (2 ^ 60) (2 ^ 60) (neg_ℤ corner.x) (neg_ℤ corner.y) s range (omega arith) (omega (arith, ints, small.x_high)) (omega (arith, ints, small.x_low)) (omega (arith, ints, small.y_high)) (omega (arith, ints, small.y_low)) in
    subst (λ dx. CanMove dx (passed (pos 0 -ℤ passed corner.y)) s) (sym (negated_is corner.x small.x_low small.x_high))
    (subst (λ dy. CanMove (neg_ℤ corner.x) dy s) (sym (negated_is corner.y small.y_low small.y_high)) can)

-- what it becomes is its shape
pub shape_found : (s moved : Plane) (corner : Cell) → IsSmallCorner corner.x corner.y → IsTopLeft corner s → moved ≡ shift (passed (pos 0 -ℤ passed corner.x)) (passed (pos 0 -ℤ passed corner.y)) s → IsShapeOf s moved corner
shape_found s moved corner small top_left is =
    shape_at s moved corner top_left (is ∙ (λ i. shift (negated_is corner.x small.x_low small.x_high i) (negated_is corner.y small.y_low small.y_high i) s))
