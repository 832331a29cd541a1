-- Cells moved to (0,0).
use Rattle.std.proofs.Common.{◌≡◌, ℕ, ◌^◌, ℤ, neg_ℤ, ◌-ℤ◌, ap, ◌∙◌, arith, inl, inr, List}
use Rattle.std.proofs.lemmas.Int.{ints}
use Rattle.life_plane.specs.Plane.{Plane, nothing, shift}
use Rattle.life_cells.specs.Boxes.{IsInRange, IsLeastBox}
use Rattle.life_cells.specs.declared.bounds.Bounds.{Bounds}
use Rattle.rle_items.specs.Words.{IsNotNegative}
use Rattle.book_parts.specs.Limits.{IsCoordinate, IsPlaced, farthest}
use Rattle.book_parts.specs.Proper.{HasLife}
use Rattle.book_write.specs.Parts.{IsPlacedText, IsProductText}
use Rattle.book_parts.specs.declared.limits.TheConstants.{GREATEST_COORDINATE}

-- coordinates of a book are in a smaller range
pub range_placed : (s : Plane) → IsPlaced s → IsInRange farthest s
range_placed s p = record {
  x_low = λ x y h. (p.x x y h).low;
  x_high = λ x y h. (p.x x y h).high;
  y_low = λ x y h. (p.y x y h).low;
  y_high = λ x y h. (p.y x y h).high;
}

-- a corner of the box of cells with such coordinates has such coordinates
pub record IsNearBox (box : Bounds) : Type 0 where
  pub left : IsCoordinate box.left
  pub top : IsCoordinate box.top

pub near_box : (s : Plane) (box : Bounds) → IsLeastBox box s → IsPlaced s → IsNearBox box
near_box s box least p =
    let lives = least.lives in
    let outer : Bounds = record { left = neg_ℤ GREATEST_COORDINATE; top = neg_ℤ GREATEST_COORDINATE; right = GREATEST_COORDINATE; bottom = GREATEST_COORDINATE } in
    let within = least.least outer (record { each = λ x y h. record { right_of_left = (p.x x y h).low; below_top = (p.y x y h).low; left_of_right = (p.x x y h).high; above_bottom = (p.y x y h).high } }) in
    let at = least.holds.each lives.0 lives.1.0 lives.1.1 in
    let x = p.x lives.0 lives.1.0 lives.1.1 in
    let y = p.y lives.0 lives.1.0 lives.1.1 in
    let a = within.left in let b = within.top in let c = at.right_of_left in let d = at.below_top in
    let xl = x.low in let xh = x.high in let yl = y.low in let yh = y.high in
    record { left = record { low = a; high = omega (arith, ints) }; top = record { low = b; high = omega (arith, ints) } }

-- moved to (0,0), no cell has a negative coordinate
pub moved_quadrant : (s : Plane) (box : Bounds) → IsLeastBox box s → IsNotNegative (shift (neg_ℤ box.left) (neg_ℤ box.top) s)
moved_quadrant s box least = record {
  x = λ x y h. let at = (least.holds.each (x -ℤ neg_ℤ box.left) (y -ℤ neg_ℤ box.top) h).right_of_left in omega (arith, ints);
  y = λ x y h. let at = (least.holds.each (x -ℤ neg_ℤ box.left) (y -ℤ neg_ℤ box.top) h).below_top in omega (arith, ints);
}

-- and each is in a range twice as wide
pub moved_range : (s : Plane) (box : Bounds) → IsLeastBox box s → IsPlaced s → IsInRange (2 ^ 31) (shift (neg_ℤ box.left) (neg_ℤ box.top) s)
moved_range s box least p =
    let near = near_box s box least p in
    let l = near.left.low in let r = near.left.high in let t = near.top.low in let b = near.top.high in
    record {
      x_low = λ x y h. let at = (least.holds.each (x -ℤ neg_ℤ box.left) (y -ℤ neg_ℤ box.top) h).right_of_left in omega (arith, ints);
      x_high = λ x y h. let at = (p.x (x -ℤ neg_ℤ box.left) (y -ℤ neg_ℤ box.top) h).high in omega (arith, ints);
      y_low = λ x y h. let at = (least.holds.each (x -ℤ neg_ℤ box.left) (y -ℤ neg_ℤ box.top) h).below_top in omega (arith, ints);
      y_high = λ x y h. let at = (p.y (x -ℤ neg_ℤ box.left) (y -ℤ neg_ℤ box.top) h).high in omega (arith, ints);
    }

-- what lives is placed where it is not `none`
pub placed_living : (s : Plane) (words : List (List ℕ)) → HasLife s → IsProductText s words → IsPlacedText s words
placed_living s words lives (inl none) = absurd (let dead : s lives.0 lives.1.0 ≡ nothing lives.0 lives.1.0 = ap (λ (p : Plane). p lives.0 lives.1.0) none.0 in let live = lives.1.1 in cc)
placed_living s words lives (inr placed) = placed

-- the same move, its distances written otherwise
pub moved_as : (s t : Plane) (box : Bounds) (dx dy : ℤ) → t ≡ shift dx dy s → dx ≡ neg_ℤ box.left → dy ≡ neg_ℤ box.top → t ≡ shift (neg_ℤ box.left) (neg_ℤ box.top) s
moved_as s t box dx dy e x y = e ∙ (λ i. shift (x i) (y i) s)
