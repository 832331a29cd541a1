-- Where a target is built, within ranges.
use Rattle.std.specs.Prelude.{◌≡◌, ℕ, ◌^◌, pos, neg_ℤ, ◌≤ℤ◌}
use Rattle.std.proofs.Common.{ap, ◌∙◌, arith, inl, inr}
use Rattle.std.proofs.lemmas.Int.{ints}
use Rattle.life_plane.specs.Plane.{Plane}
use Rattle.life_cells.specs.Cells.{Cells, alive, empty}
use Rattle.life_cells.specs.Laws.{alive-empty}
use Rattle.life_cells.specs.Boxes.{IsInRange, IsBoxInRange, IsCellInRange, IsLeastBox}
use Rattle.life_cells.specs.declared.bounds.Bounds.{Bounds}
use Rattle.life_cells.specs.declared.cell.Cell.{Cell}
use Rattle.book_parts.specs.Limits.{AreProper}
use Rattle.book_parts.specs.declared.settings.Settings.{Settings}
use Rattle.build_plan.specs.Placing.{IsPlacing, to_corner, room_about}

-- the box of all coordinates from -n to n
abbrev range_box : ℕ → Bounds
range_box n = record { left = neg_ℤ (pos n); top = neg_ℤ (pos n); right = pos n; bottom = pos n }

-- the least box about what lives in a range, its left not past its right nor its top past its bottom
pub record IsBoxThere (n : ℕ) (box : Bounds) : Type 0 where
  pub range : IsBoxInRange n box
  pub columns : box.left ≤ℤ box.right
  pub rows : box.top ≤ℤ box.bottom

pub least_in_range : (n : ℕ) (s : Plane) (box : Bounds) → IsInRange n s → IsLeastBox box s → IsBoxThere n box
least_in_range n s box h l =
    let within = l.least (range_box n) (record { each = λ x y live. record { right_of_left = h.x_low x y live; below_top = h.y_low x y live; left_of_right = h.x_high x y live; above_bottom = h.y_high x y live } }) in
    let there = l.lives in
    let here = l.holds.each there.0 there.1.0 there.1.1 in
    let a = here.right_of_left in let b = here.left_of_right in let c = here.below_top in let d = here.above_bottom in
    let left = within.left in let right = within.right in let top = within.top in let bottom = within.bottom in
    record {
      range = record {
        left_low = left;
        left_high = omega (arith, ints);
        top_low = top;
        top_high = omega (arith, ints);
        right_low = omega (arith, ints);
        right_high = right;
        bottom_low = omega (arith, ints);
        bottom_high = bottom;
      };
      columns = omega (arith, ints);
      rows = omega (arith, ints);
    }

-- the move to the corner
pub corner_in_range : (settings : Settings) (box : Bounds) → AreProper settings → IsBoxInRange (2 ^ 40) box → IsCellInRange (2 ^ 41) (to_corner settings.corner box)
corner_in_range settings box proper b =
    let x = proper.corner_x in
    let y = proper.corner_y in
    record { x_low = omega (arith, ints); x_high = omega (arith, ints); y_low = omega (arith, ints); y_high = omega (arith, ints) }

-- ---- where a set of cells is placed

pub empty_placing : (settings : Settings) (cells : Cells) (by : Cell) (room : Bounds) → cells ≡ empty → by ≡ record { y = pos 0; x = pos 0 } → room ≡ record { left = by.x; top = by.y; right = by.x; bottom = by.y } →
    IsPlacing settings (alive cells) (record { by = by; room = room })
empty_placing settings cells by room none by_is room_is = inl (record {
  empty = ap alive none ∙ alive-empty;
  by_none = by_is;
  no_room = room_is ∙ (λ i. record { left = (by_is i).x; top = (by_is i).y; right = (by_is i).x; bottom = (by_is i).y });
})

pub box_placing : (settings : Settings) (s : Plane) (box room : Bounds) (by : Cell) → IsLeastBox box s → by ≡ to_corner settings.corner box → room ≡ room_about settings by box →
    IsPlacing settings s (record { by = by; room = room })
box_placing settings s box room by least by_is room_is = inr (record { box = box; least = least; by_is = by_is; room_is = room_is })
