-- The frame of a set in the range, and the cell that its items begin with.
use Rattle.std.specs.Prelude.{◌≡◌, ℕ, ◌^◌, true, ℤ, pos, neg_ℤ, ◌≤ℤ◌, List, [], ◌∷◌}
use Rattle.std.specs.List.{AllByRecursion}
use Rattle.std.specs.declared.cmp.Ordering.TheVariants.{Less}
use Rattle.std.proofs.Common.{sym, ap, ◌∙◌, arith, subst, inl, inr}
use Rattle.std.proofs.lemmas.Int.{ints}
use Rattle.life_plane.specs.Plane.{Plane}
use Rattle.life_cells.specs.declared.cell.Cell.{Cell}
use Rattle.life_cells.specs.declared.bounds.Bounds.{Bounds}
use Rattle.life_cells.specs.Cells.{cell, cell_cmp, IsRising}
use Rattle.life_cells.specs.Listed.{listed, same_cell}
use Rattle.life_cells.specs.Boxes.{IsInRange, IsLeastBox}
use Rattle.life_cells.specs.OrderLaws.{comes_before, rising_head, same_cell_is}
use Rattle.rle_items.specs.declared.item.Item.{Item}
use Rattle.rle_items.specs.declared.item.Tag.{Tag}
use Rattle.rle_items.specs.declared.item.Tag.TheVariants.{Dead, Alive, RowEnd}
use Rattle.life_rle.specs.Written.{IsFrame, IsTidy, IsTidyAfter}
use Rattle.life_rle.specs.Drawn.{IsBehind, StartsAfter, IsTidyFrom}
use Rattle.life_cells.specs.PlaceLaws.{listed_here}
use Rattle.std.proofs.lemmas.Bool.{or_cases}

-- a box with its sides in order and in the range
pub record IsNearBox (box : Bounds) : Type 0 where
  pub left : neg_ℤ (pos (2 ^ 58)) ≤ℤ box.left
  pub top : neg_ℤ (pos (2 ^ 58)) ≤ℤ box.top
  pub right : box.right ≤ℤ pos (2 ^ 58)
  pub bottom : box.bottom ≤ℤ pos (2 ^ 58)
  pub across : box.left ≤ℤ box.right
  pub down : box.top ≤ℤ box.bottom

pub near_box : (box : Bounds) (s : Plane) → IsLeastBox box s → IsInRange (2 ^ 58) s → IsNearBox box
near_box box s b r =
    let range : Bounds = record { left = neg_ℤ (pos (2 ^ 58)); top = neg_ℤ (pos (2 ^ 58)); right = pos (2 ^ 58); bottom = pos (2 ^ 58) } in
    let w = b.least range (record { each = λ x y h. record { right_of_left = r.x_low x y h; below_top = r.y_low x y h; left_of_right = r.x_high x y h; above_bottom = r.y_high x y h } }) in
    let i = b.holds.each b.lives.0 b.lives.1.0 b.lives.1.1 in
    let a = i.right_of_left in let z = i.left_of_right in let c = i.below_top in let d = i.above_bottom in
    record { left = w.left; top = w.top; right = w.right; bottom = w.bottom; across = omega (arith, ints); down = omega (arith, ints) }

-- ---- the place of a frame

pub frame_behind : (s : Plane) (place : Cell) (width height : ℕ) → IsFrame s place width height → IsBehind place.x place.y s
frame_behind s place width height (inl none) = record { x = λ x y h. absurd (cc (ap (λ (p : Plane). p x y) none.0)); y = λ x y h. absurd (cc (ap (λ (p : Plane). p x y) none.0)) }
frame_behind s place width height (inr some) =
    let box = some.0 in let here = some.1.1.0 in let holds = some.1.0.holds in
    record {
      x = λ x y h. let a = (holds.each x y h).right_of_left in let e = ap (λ (c : Cell). c.x) here in omega (arith, ints);
      y = λ x y h. let a = (holds.each x y h).below_top in let e = ap (λ (c : Cell). c.y) here in omega (arith, ints);
    }

-- ---- the first cell is in the top row

rows_below : (c : Cell) (cs : List Cell) → AllByRecursion (λ d. cell_cmp c d ≡ Less) cs → AllByRecursion (λ d. c.y ≤ℤ d.y) cs
rows_below c [] h = tt
rows_below c (d ∷ ds) h = (elim (comes_before c d h.0) [ inl below ↦ omega (arith, ints) | inr row ↦ let e = row.0 in omega (arith, ints) ], rows_below c ds h.1)

pub each_of : (P : Cell → Type 0) (cs : List Cell) → AllByRecursion P cs → (x y : ℤ) → listed cs x y ≡ true → P (cell x y)
each_of P [] a x y h = cc
each_of P (c ∷ cs) a x y h =
    elim (or_cases (same_cell (cell x y) c) (listed cs x y) h) [
      | inl here ↦ subst P (sym (same_cell_is (cell x y) c here)) a.0
      | inr there ↦ each_of P cs a.1 x y there
    ]

top_cell : (box : Bounds) (c : Cell) (cs : List Cell) → IsRising (c ∷ cs) → IsLeastBox box (listed (c ∷ cs)) → c.y ≡ box.top
top_cell box c cs r b =
    let itself : c.y ≤ℤ c.y = omega (arith, ints) in
    let below : AllByRecursion (λ d. c.y ≤ℤ d.y) (c ∷ cs) = (itself, rows_below c cs (rising_head c cs r)) in
    let lower : Bounds = record { left = box.left; top = c.y; right = box.right; bottom = box.bottom } in
    let w = b.least lower (record { each = λ x y h. let i = b.holds.each x y h in record { right_of_left = i.right_of_left; below_top = each_of (λ d. c.y ≤ℤ d.y) (c ∷ cs) below x y h; left_of_right = i.left_of_right; above_bottom = i.above_bottom } }) in
    let up = w.top in
    let i = (b.holds.each c.x c.y (listed_here c cs)).below_top in
    omega (arith, ints)

tidy_started : (top : ℤ) (c : Cell) (items : List Item) (start : Tag) → c.y ≡ top → StartsAfter top c start → IsTidyAfter start items → IsTidy items
tidy_started top c items Dead e s t = absurd s
tidy_started top c items Alive e s t = absurd (s e)
tidy_started top c items RowEnd e s t = inr t

-- so the items of a frame's cells begin in its top row
pub tidy_framed : (cs : List Cell) (place : Cell) (width height : ℕ) (items : List Item) → IsRising cs → IsFrame (listed cs) place width height → IsTidyFrom place.y cs items → IsTidy items
tidy_framed [] place width height items r f t = inl t
tidy_framed (c ∷ cs) place width height items r (inl none) t = absurd (cc (ap (λ (p : Plane). p c.x c.y) none.0, listed_here c cs))
tidy_framed (c ∷ cs) place width height items r (inr some) t =
    let top = top_cell some.0 c cs r some.1.0 ∙ sym (ap (λ (d : Cell). d.y) some.1.1.0) in
    tidy_started place.y c items t.0 top t.1.0 t.1.1
