-- The laws of the cells of a list and of a set, one by one: what stands at a place lives, and what holds at each place holds of what lives.
use Rattle.std.proofs.Common.{◌≡◌, ℕ, ◌+◌, ◌<◌, ◌≤◌, true, ℤ, List, [], ◌∷◌, length, get_or, Some, sym, ap, subst, ◌∙◌, arith, inl, inr}
use Rattle.std.specs.List.{slice_get, AllByRecursion}
use Rattle.std.proofs.lemmas.Option.{slice_get_within, slice_get-get_or}
use Rattle.std.proofs.lemmas.Bool.{cases_lt, or_left, or_right}
use Rattle.life_plane.specs.ListLaws.{same_item}
use Rattle.life_plane.specs.Plane.{Plane}
use Rattle.life_cells.specs.declared.cell.Cell.{Cell}
use Rattle.life_cells.specs.Cells.{cell, Cells, alive, in_order}
use Rattle.life_cells.specs.Listed.{listed, same_cell}
use Rattle.life_cells.specs.OrderLaws.{same_cell-itself}
use Rattle.life_cells.specs.Laws.{alive-in_order, listed_at_place, place_of_listed}

-- what a list in a set's order has at a place
pub at_place : (s : Cells) (items : List Cell) → items ≡ in_order s → (i : ℕ) (z : Cell) → i < length items → slice_get (in_order s) i ≡ Some (get_or items i z)
at_place s items order i z lt = ap (λ cs. slice_get cs i) (sym order) ∙ slice_get-get_or items i z lt

-- what stands at a place lives
pub live_at : (s : Cells) (items : List Cell) → items ≡ in_order s → (i : ℕ) (z : Cell) → i < length items → alive s (get_or items i z).x (get_or items i z).y ≡ true
live_at s items order i z lt =
    ap (λ (p : Plane). p (get_or items i z).x (get_or items i z).y) (alive-in_order s) ∙ listed_at_place (in_order s) i (get_or items i z) (at_place s items order i z lt)

same_number : (k i : ℕ) → k < i + 1 → i ≤ k → k ≡ i
same_number k i h g = omega arith

-- what holds of the cells below a place and of the next holds of one more
pub each_more : (cs : List Cell) (P : Cell → Type 0) (i : ℕ) (c : Cell) → slice_get cs i ≡ Some c → ((k : ℕ) (d : Cell) → k < i → slice_get cs k ≡ Some d → P d) → P c →
    (k : ℕ) (d : Cell) → k < i + 1 → slice_get cs k ≡ Some d → P d
each_more cs P i c at_i below here k d lt at_k = elim (cases_lt k i) [
  | inl less ↦ below k d less at_k
  | inr ge ↦ subst P (same_item at_i (subst (λ n. slice_get cs n ≡ Some d) (same_number k i lt ge) at_k)) here
]

-- what holds of each cell of a set holds of what lives
pub each_live : (s : Cells) (P : ℤ → ℤ → Type 0) (n : ℕ) → length (in_order s) ≤ n → ((k : ℕ) (d : Cell) → k < n → slice_get (in_order s) k ≡ Some d → P d.x d.y) →
    (x y : ℤ) → alive s x y ≡ true → P x y
each_live s P n short each x y live =
    let p = place_of_listed (in_order s) x y (sym (ap (λ (q : Plane). q x y) (alive-in_order s)) ∙ live) in
    let within = slice_get_within (in_order s) p.0 (cell x y) p.1 in
    each p.0 (cell x y) (omega arith) p.1

-- ---- the cells of a list

pub listed_here : (c : Cell) (cs : List Cell) → listed (c ∷ cs) c.x c.y ≡ true
listed_here c cs = or_left _ _ (same_cell-itself c)

listed_there : (c : Cell) (cs : List Cell) (x y : ℤ) → listed cs x y ≡ true → listed (c ∷ cs) x y ≡ true
listed_there c cs x y h = or_right (same_cell (cell x y) c) _ h

-- what holds of what is listed holds of each cell
pub each_listed : (P : Cell → Type 0) (cs : List Cell) → ((c : Cell) → listed cs c.x c.y ≡ true → P c) → AllByRecursion P cs
each_listed P [] f = tt
each_listed P (c ∷ cs) f = (f c (listed_here c cs), each_listed P cs (λ d h. f d (listed_there c cs d.x d.y h)))
