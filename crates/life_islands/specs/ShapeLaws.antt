-- The laws of shapes.
use Rattle.std.specs.Prelude.{◌≡◌, ℤ, pos, neg_ℤ, ◌+ℤ◌, ◌-ℤ◌}
use Rattle.std.proofs.Common.{refl, sym, ap, subst, ◌∙◌, arith}
use Rattle.std.proofs.lemmas.Int.{ints}
use Rattle.life_cells.specs.Boxes.{Holds, IsLeastBox}
use Rattle.life_cells.specs.BoxLaws.{one_least_box}
use Rattle.life_cells.specs.Cells.{cell}
use Rattle.life_cells.specs.declared.bounds.Bounds.{Bounds}
use Rattle.life_cells.specs.declared.cell.Cell.{Cell}
use Rattle.life_islands.specs.Shapes.{IsTopLeft, IsShape, IsShapeOf}
use Rattle.life_plane.specs.Plane.{Plane, shift, same_plane}

-- the box moved right by dx and down by dy
abbrev pub moved_box : ℤ → ℤ → Bounds → Bounds
moved_box dx dy box = record { left = box.left +ℤ dx; top = box.top +ℤ dy; right = box.right +ℤ dx; bottom = box.bottom +ℤ dy }

holds_back : (dx dy : ℤ) (s : Plane) (box : Bounds) → Holds box (shift dx dy s) → Holds (moved_box (neg_ℤ dx) (neg_ℤ dy) box) s
holds_back dx dy s box h = record {
  each = λ x y lives.
      let back : (z d : ℤ) → (z +ℤ d) -ℤ d ≡ z = λ z d. omega (arith, ints) in
      let i = h.each (x +ℤ dx) (y +ℤ dy) (rw (back x dx, back y dy) lives) in
      record { right_of_left = omega (arith, ints, i.right_of_left); below_top = omega (arith, ints, i.below_top); left_of_right = omega (arith, ints, i.left_of_right); above_bottom = omega (arith, ints, i.above_bottom) };
}

-- the least box of a moved plane is the moved one
pub least_box_moves : (dx dy : ℤ) (s : Plane) (box : Bounds) → IsLeastBox box s → IsLeastBox (moved_box dx dy box) (shift dx dy s)
least_box_moves dx dy s box h = record {
  holds = record {
    each = λ x y lives.
        let i = h.holds.each (x -ℤ dx) (y -ℤ dy) lives in
        record { right_of_left = omega (arith, ints, i.right_of_left); below_top = omega (arith, ints, i.below_top); left_of_right = omega (arith, ints, i.left_of_right); above_bottom = omega (arith, ints, i.above_bottom) };
  };
  least = λ other held.
      let w = h.least (moved_box (neg_ℤ dx) (neg_ℤ dy) other) (holds_back dx dy s other held) in
      record { left = omega (arith, ints, w.left); top = omega (arith, ints, w.top); right = omega (arith, ints, w.right); bottom = omega (arith, ints, w.bottom) };
  lives =
      let back : (z d : ℤ) → (z +ℤ d) -ℤ d ≡ z = λ z d. omega (arith, ints) in
      (h.lives.0 +ℤ dx, (h.lives.1.0 +ℤ dy, rw (back h.lives.0 dx, back h.lives.1.0 dy) h.lives.1.1));
}

-- the top left moves with the plane
pub top_left_moves : (dx dy : ℤ) (s : Plane) (corner : Cell) → IsTopLeft corner s → IsTopLeft (cell (corner.x +ℤ dx) (corner.y +ℤ dy)) (shift dx dy s)
top_left_moves dx dy s corner h = record {
  box = moved_box dx dy h.box;
  least = least_box_moves dx dy s h.box h.least;
  left = ap (λ z. z +ℤ dx) h.left;
  top = ap (λ z. z +ℤ dy) h.top;
}

-- a plane has one top left
pub one_top_left : (s : Plane) (a b : Cell) → IsTopLeft a s → IsTopLeft b s → a ≡ b
one_top_left s a b h k =
    let boxes : h.box ≡ k.box = one_least_box s h.box k.box h.least k.least in
    let xs : a.x ≡ b.x = sym h.left ∙ ap (λ (box : Bounds). box.left) boxes ∙ k.left in
    let ys : a.y ≡ b.y = sym h.top ∙ ap (λ (box : Bounds). box.top) boxes ∙ k.top in
    λ i. record { y = ys i; x = xs i }

-- moved back and forth
pub moved_back : (dx dy : ℤ) (s : Plane) → s ≡ shift dx dy (shift (neg_ℤ dx) (neg_ℤ dy) s)
moved_back dx dy s = same_plane _ _ (λ x y. let f : (z d : ℤ) → (z -ℤ d) -ℤ neg_ℤ d ≡ z = λ z d. omega (arith, ints) in rw (f x dx, f y dy) refl)

pub moved_forth : (dx dy : ℤ) (s : Plane) → shift (neg_ℤ dx) (neg_ℤ dy) (shift dx dy s) ≡ s
moved_forth dx dy s = same_plane _ _ (λ x y. let f : (z d : ℤ) → (z -ℤ neg_ℤ d) -ℤ d ≡ z = λ z d. omega (arith, ints) in rw (f x dx, f y dy) refl)

-- a plane moved to the top left of its least box is its shape
pub shape_at : (s shape : Plane) (corner : Cell) → IsTopLeft corner s → shape ≡ shift (neg_ℤ corner.x) (neg_ℤ corner.y) s → IsShapeOf s shape corner
shape_at s shape corner h is =
    let none : (z : ℤ) → z +ℤ neg_ℤ z ≡ pos 0 = λ z. omega (arith, ints) in
    let at = top_left_moves (neg_ℤ corner.x) (neg_ℤ corner.y) s corner h in
    record {
      is_shape = subst IsShape (sym is) (subst (λ c. IsTopLeft c (shift (neg_ℤ corner.x) (neg_ℤ corner.y) s)) (λ i. cell (none corner.x i) (none corner.y i)) at);
      top_left = h;
      moved = moved_back corner.x corner.y s ∙ ap (shift corner.x corner.y) (sym is);
    }

-- a plane has one shape
pub one_shape : (s a b : Plane) (c d : Cell) → IsShapeOf s a c → IsShapeOf s b d → (a ≡ b) × (c ≡ d)
one_shape s a b c d h k =
    let corners : c ≡ d = one_top_left s c d h.top_left k.top_left in
    let moved : shift c.x c.y a ≡ shift c.x c.y b = sym h.moved ∙ k.moved ∙ sym (ap (λ (e : Cell). shift e.x e.y b) corners) in
    (sym (moved_forth c.x c.y a) ∙ ap (shift (neg_ℤ c.x) (neg_ℤ c.y)) moved ∙ moved_forth c.x c.y b, corners)

-- a moved plane has the same shape, at the moved place
pub shape_moves : (dx dy : ℤ) (s shape : Plane) (corner : Cell) → IsShapeOf s shape corner → IsShapeOf (shift dx dy s) shape (cell (corner.x +ℤ dx) (corner.y +ℤ dy))
shape_moves dx dy s shape corner h = record {
  is_shape = h.is_shape;
  top_left = top_left_moves dx dy s corner h.top_left;
  moved = ap (shift dx dy) h.moved ∙ same_plane _ _ (λ x y. let f : (z d c : ℤ) → (z -ℤ d) -ℤ c ≡ z -ℤ (c +ℤ d) = λ z d c. omega (arith, ints) in rw (f x dx corner.x, f y dy corner.y) refl);
}
