-- The least box of one cell more.
use Rattle.std.proofs.Common.{◌≡◌, ℕ, ◌+◌, ◌-◌, ◌<◌, ◌≤◌, List, [], ◌∷◌, length, take, drop, get_or, sym, ap, subst, ◌∙◌, arith}
use Rattle.std.specs.Prelude.{◌||◌, Option, Some, None, IfSome, IfNone}
use Rattle.std.proofs.lemmas.Int.{ints}
use Rattle.std.proofs.lemmas.List.{take_all}
use Rattle.std.proofs.lemmas.List.Folds.{list_any_more}
use Rattle.std.proofs.Math.Bool.{or-false, or_assoc}
use Rattle.life_cells.specs.declared.cell.Cell.{Cell}
use Rattle.life_cells.specs.declared.bounds.Bounds.{Bounds}
use Rattle.life_cells.specs.Boxes.{IsLeastBox, box_of_both}
use Rattle.life_cells.specs.BoxLaws.{least_of_both}
use Rattle.life_cells.specs.Cells.{cell, Cells, in_order, alive, empty}
use Rattle.life_cells.specs.Laws.{empty_of_none, alive_of_order}
use Rattle.life_cells.specs.Listed.{same_cell, listed}
use Rattle.life_cells.specs.OrderLaws.{same_cell_is, same_cell-itself}
use Rattle.life_plane.specs.Plane.{Plane, union, same_plane}

-- the box of one cell
abbrev pub box_at : Cell → Bounds
box_at c = record { left = c.x; top = c.y; right = c.x; bottom = c.y }

-- one live cell
abbrev pub lone : Cell → Plane
lone c x y = same_cell (cell x y) c

pub least_of_one : (c : Cell) → IsLeastBox (box_at c) (lone c)
least_of_one c = record {
  holds = record {
    each = λ x y h. let s = same_cell_is (cell x y) c h in let ex : x ≡ c.x = ap (λ (d : Cell). d.x) s in let ey : y ≡ c.y = ap (λ (d : Cell). d.y) s in
        record { right_of_left = omega (arith, ints); below_top = omega (arith, ints); left_of_right = omega (arith, ints); above_bottom = omega (arith, ints) };
  };
  least = λ other h. let i = h.each c.x c.y (same_cell-itself c) in record { left = i.right_of_left; top = i.below_top; right = i.left_of_right; bottom = i.above_bottom };
  lives = (c.x, (c.y, same_cell-itself c));
}

pub least_of_more : (b : Bounds) (s : Plane) (c : Cell) → IsLeastBox b s → IsLeastBox (box_of_both b (box_at c)) (union s (lone c))
least_of_more b s c h = least_of_both b (box_at c) s (lone c) h (least_of_one c)

pub union_none : (s : Plane) → union s (listed []) ≡ s
union_none s = same_plane _ _ (λ x y. or-false (s x y))

-- a loop's step
pub union_more : (s : Plane) (cs : List Cell) (i : ℕ) (d : Cell) → i < length cs → union s (listed (take (i + 1) cs)) ≡ union (union s (listed (take i cs))) (lone (get_or cs i d))
union_more s cs i d lt = same_plane _ _ (λ x y. ap (λ b. s x y || b) (list_any_more (same_cell (cell x y)) cs i d lt) ∙ sym (or_assoc (s x y) (listed (take i cs) x y) (lone (get_or cs i d) x y)))

-- the box of a list, from that of its first cell
pub least_of_list : (cs : List Cell) (d : Cell) (start box : Bounds) → 1 ≤ length cs → start ≡ box_at (get_or cs 0 d)
    → ((s : Plane) → IsLeastBox start s → IsLeastBox box (union s (listed (take (length cs - 1) (drop 1 cs))))) → IsLeastBox box (listed cs)
least_of_list [] d start box h e f = absurd (omega arith)
least_of_list (c ∷ cs) d start box h e f =
    let rest : take (length (c ∷ cs) - 1) (drop 1 (c ∷ cs)) ≡ cs = take_all (length (c ∷ cs) - 1) cs (omega arith) in
    subst (λ xs. IsLeastBox box (union (lone c) (listed xs))) rest (f (lone c) (subst (λ b. IsLeastBox b (lone c)) (sym e) (least_of_one c)))

pub least_of_set : (r : Option Bounds) (cs : List Cell) (s : Cells) → cs ≡ in_order s → IfSome r (λ box. IsLeastBox box (listed cs)) → IfSome r (λ box. IsLeastBox box (alive s))
least_of_set None cs s e h = tt
least_of_set (Some box) cs s e h = subst (IsLeastBox box) (alive_of_order cs s e) h

pub none_of_set : (r : Option Bounds) (cs : List Cell) (s : Cells) → cs ≡ in_order s → IfNone r (cs ≡ []) → IfNone r (s ≡ empty)
none_of_set None cs s e h = empty_of_none s (sym e ∙ h)
none_of_set (Some box) cs s e h = tt
