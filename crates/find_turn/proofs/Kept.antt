-- The cells of a set with a property, looked at one by one.
use Rattle.std.proofs.Common.{◌≡◌, ℕ, ◌+◌, ◌<◌, ◌≤◌, Bool, true, false, cond, ℤ, List, [], ◌∷◌, ◌++◌, length, get_or, take, Some, sym, ap, subst, ◌∙◌}
use Rattle.std.specs.Prelude.{◌&&◌}
use Rattle.std.specs.List.{filter, slice_get}
use Rattle.std.proofs.lemmas.List.{append-nil, take_all}
use Rattle.std.proofs.lemmas.List.Elements.{filter_more}
use Rattle.std.proofs.lemmas.List.Kept.{IsStrictlySortedBy-filter}
use Rattle.std.proofs.lemmas.Map.Views.{any-filter_same}
use Rattle.std.proofs.Math.Bool.{and_comm}
use Rattle.life_cells.specs.declared.cell.Cell.{Cell}
use Rattle.life_cells.specs.Boxes.{IsInRange, IsCellInRange}
use Rattle.life_cells.specs.Cells.{Cells, IsRising, alive, cell, cell_cmp, in_order, from_list}
use Rattle.life_cells.specs.Laws.{alive-from_list_at, alive-in_order_at}
use Rattle.life_cells.specs.Listed.{listed, same_cell}
use Rattle.life_cells.specs.OrderLaws.{same_cell_is}
use Rattle.life_cells.specs.PlaceLaws.{live_at, each_live}

-- the cell at a place is in range
pub in_range_at : (n : ℕ) (s : Cells) (cs : List Cell) → cs ≡ in_order s → (i : ℕ) (z : Cell) → i < length cs → IsInRange n (alive s) → IsCellInRange n (get_or cs i z)
in_range_at n s cs order i z lt range =
    let live = live_at s cs order i z lt in
    record { x_low = range.x_low _ _ live; x_high = range.x_high _ _ live; y_low = range.y_low _ _ live; y_high = range.y_high _ _ live }

-- one cell more that is kept
pub kept_more : (p : Cell → Bool) (cs kept more : List Cell) (i : ℕ) (z : Cell) → i < length cs → kept ≡ filter p (take i cs) → p (get_or cs i z) ≡ true → more ≡ kept ++ get_or cs i z ∷ [] →
    more ≡ filter p (take (i + 1) cs)
kept_more p cs kept more i z lt before here joined =
    joined ∙ ap (λ ks. ks ++ get_or cs i z ∷ []) before ∙ sym (ap (λ b. filter p (take i cs) ++ cond b (get_or cs i z ∷ []) []) here) ∙ sym (filter_more p cs i z lt)

-- and one that isn't
pub left_out : (p : Cell → Bool) (cs kept : List Cell) (i : ℕ) (z : Cell) → i < length cs → kept ≡ filter p (take i cs) → p (get_or cs i z) ≡ false →
    kept ≡ filter p (take (i + 1) cs)
left_out p cs kept i z lt before here =
    before ∙ sym (filter_more p cs i z lt ∙ ap (λ b. filter p (take i cs) ++ cond b (get_or cs i z ∷ []) []) here ∙ append-nil (filter p (take i cs)))

pub kept_all : (p : Cell → Bool) (cs kept : List Cell) (n : ℕ) → length cs ≤ n → kept ≡ filter p (take n cs) → kept ≡ filter p cs
kept_all p cs kept n long h = h ∙ ap (filter p) (take_all n cs long)

pub kept_rises : (p : Cell → Bool) (cs : List Cell) → IsRising cs → IsRising (filter p cs)
kept_rises p cs rises = IsStrictlySortedBy-filter cell_cmp p cs rises

listed_kept : (p : Cell → Bool) (cs : List Cell) (x y : ℤ) → listed (filter p cs) x y ≡ (p (cell x y) && listed cs x y)
listed_kept p cs x y = any-filter_same (same_cell (cell x y)) p (p (cell x y)) (λ c h. ap p (sym (same_cell_is (cell x y) c h))) cs

-- what lives in the set of the kept cells
pub set_kept : (p : Cell → Bool) (s kept : Cells) (cs ks : List Cell) → cs ≡ in_order s → ks ≡ filter p cs → kept ≡ from_list ks → (x y : ℤ) → alive kept x y ≡ (alive s x y && p (cell x y))
set_kept p s kept cs ks order is made x y =
    ap (λ (q : Cells). alive q x y) made ∙ alive-from_list_at ks x y ∙ ap (λ l. listed l x y) is ∙ listed_kept p cs x y
    ∙ ap (λ b. p (cell x y) && b) (ap (λ l. listed l x y) order ∙ sym (alive-in_order_at s x y)) ∙ and_comm (p (cell x y)) (alive s x y)

-- what holds of each cell of a set in order holds of what lives
pub each_of_set : (s : Cells) (cs : List Cell) → cs ≡ in_order s → (P : ℤ → ℤ → Type 0) (n : ℕ) → length cs ≤ n → ((k : ℕ) (d : Cell) → k < n → slice_get cs k ≡ Some d → P d.x d.y) → (x y : ℤ) → alive s x y ≡ true → P x y
each_of_set s cs order P n long each =
    each_live s P n (subst (λ l. length l ≤ n) order long) (λ k d lt at. each k d lt (subst (λ l. slice_get l k ≡ Some d) (sym order) at))
