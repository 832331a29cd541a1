-- Cells are placed where the sides of their least box are.
use Rattle.std.proofs.Common.{pos, neg_ℤ, arith}
use Rattle.std.proofs.lemmas.Int.{ints}
use Rattle.life_plane.specs.Plane.{Plane}
use Rattle.life_cells.specs.Boxes.{Holds, IsLeastBox}
use Rattle.life_cells.specs.declared.bounds.Bounds.{Bounds}
use Rattle.book_parts.specs.Limits.{IsCoordinate, IsPlaced}
use Rattle.recipe_find.specs.Limited.{IsBoxPlaced}

pub placed_by_box : (s : Plane) (box : Bounds) → IsLeastBox box s → IsBoxPlaced box → IsPlaced s
placed_by_box s box least h =
    let left = h.0.0 in let top = h.0.1 in let right = h.1.0 in let bottom = h.1.1 in
    let a = left.low in let b = right.high in let c = top.low in let d = bottom.high in
    record {
      x = λ x y alive. let in_box = least.holds.each x y alive in let e = in_box.right_of_left in let f = in_box.left_of_right in record { low = omega (arith, ints); high = omega (arith, ints) };
      y = λ x y alive. let in_box = least.holds.each x y alive in let e = in_box.below_top in let f = in_box.above_bottom in record { low = omega (arith, ints); high = omega (arith, ints) };
    }

widest : Bounds
widest = record { left = neg_ℤ (pos 1073741824); top = neg_ℤ (pos 1073741824); right = pos 1073741824; bottom = pos 1073741824 }

held_by_widest : (s : Plane) → IsPlaced s → Holds widest s
unfolding widest
held_by_widest s h = record { each = λ x y alive. let a = h.x x y alive in let b = h.y x y alive in record { right_of_left = a.low; below_top = b.low; left_of_right = a.high; above_bottom = b.high } }

pub box_placed : (s : Plane) (box : Bounds) → IsLeastBox box s → IsPlaced s → IsBoxPlaced box
unfolding widest
box_placed s box least h =
    let within = least.least widest (held_by_widest s h) in
    let lives = least.lives in
    let inside = least.holds.each lives.0 lives.1.0 lives.1.1 in
    let a = within.left in let b = within.top in let c = within.right in let d = within.bottom in
    let e = inside.right_of_left in let f = inside.left_of_right in let g = inside.below_top in let i = inside.above_bottom in
    let left : IsCoordinate box.left = record { low = omega (arith, ints); high = omega (arith, ints) } in
    let top : IsCoordinate box.top = record { low = omega (arith, ints); high = omega (arith, ints) } in
    let right : IsCoordinate box.right = record { low = omega (arith, ints); high = omega (arith, ints) } in
    let bottom : IsCoordinate box.bottom = record { low = omega (arith, ints); high = omega (arith, ints) } in
    ((left, top), (right, bottom))
