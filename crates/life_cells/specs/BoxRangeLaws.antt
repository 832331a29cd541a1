-- The range of a least box.
use Rattle.std.proofs.Common.{ℕ, pos, neg_ℤ, arith}
use Rattle.std.proofs.lemmas.Int.{ints}
use Rattle.life_plane.specs.Plane.{Plane}
use Rattle.life_cells.specs.declared.bounds.Bounds.{Bounds}
use Rattle.life_cells.specs.Boxes.{Holds, IsLeastBox, IsInRange, IsBoxInRange}

-- the range as a box
unfoldable range_box : ℕ → Bounds
range_box n = record { left = neg_ℤ (pos n); top = neg_ℤ (pos n); right = pos n; bottom = pos n }

-- the least box of cells in a range is in it
pub box_in_range : (n : ℕ) (box : Bounds) (s : Plane) → IsLeastBox box s → IsInRange n s → IsBoxInRange n box
unfolding range_box
box_in_range n box s h range =
    let w = h.least (range_box n) (record { each = λ x y l. record { right_of_left = range.x_low x y l; below_top = range.y_low x y l; left_of_right = range.x_high x y l; above_bottom = range.y_high x y l } }) in
    let i = h.holds.each h.lives.0 h.lives.1.0 h.lives.1.1 in
    let l = range.x_low h.lives.0 h.lives.1.0 h.lives.1.1 in
    let r = range.x_high h.lives.0 h.lives.1.0 h.lives.1.1 in
    let t = range.y_low h.lives.0 h.lives.1.0 h.lives.1.1 in
    let b = range.y_high h.lives.0 h.lives.1.0 h.lives.1.1 in
    record {
      left_low = w.left;
      left_high = omega (arith, ints, i.right_of_left);
      top_low = w.top;
      top_high = omega (arith, ints, i.below_top);
      right_low = omega (arith, ints, i.left_of_right);
      right_high = w.right;
      bottom_low = omega (arith, ints, i.above_bottom);
      bottom_high = w.bottom;
    }

-- and what lies in a box of that range is in it
pub range_of_box : (n : ℕ) (box : Bounds) (s : Plane) → Holds box s → IsBoxInRange n box → IsInRange n s
range_of_box n box s h range =
    let a = range.left_low in let b = range.top_low in let c = range.right_high in let d = range.bottom_high in
    record {
      x_low = λ x y l. let i = h.each x y l in omega (arith, ints, i.right_of_left);
      x_high = λ x y l. let i = h.each x y l in omega (arith, ints, i.left_of_right);
      y_low = λ x y l. let i = h.each x y l in omega (arith, ints, i.below_top);
      y_high = λ x y l. let i = h.each x y l in omega (arith, ints, i.above_bottom);
    }
