-- What an index and a search say of a list of cells.
use Rattle.std.proofs.Common.{◌≡◌, ℕ, Bool, true, false, List, length, get_or, Result, Ok, Err, refl, sym, ap, ◌∙◌, arith, inl, inr}
use Rattle.std.specs.declared.cmp.Ordering.TheVariants.{Less, Greater}
use Rattle.std.specs.Ordering.{is_eq}
use Rattle.std.specs.Cmp.{tied_back}
use Rattle.std.specs.List.{Contains}
use Rattle.std.specs.List.Sorted.{IsBinarySearchResult, IsSearchInRange}
use Rattle.std.specs.Result.{is_ok}
use Rattle.std.proofs.lemmas.Bool.{cases_lt}
use Rattle.std.proofs.lemmas.List.Folds.{list_any_at, list_any_none, Any-from_list_any}
use Rattle.std.proofs.lemmas.List.Sorted.{searchable_from_sorted}
use Rattle.life_cells.specs.declared.cell.Cell.{Cell}
use Rattle.life_cells.specs.Cells.{cell_cmp, IsRising}
use Rattle.life_cells.specs.Listed.{same_cell, listed}
use Rattle.life_cells.specs.SortedLaws.{sorted_from_rising}
use Rattle.life_cells.specs.OrderLaws.{cells_total, same_cell_is, same_cell-itself, turned}
use Rattle.life_plane.specs.Plane.{same_plane}

-- a search finds exactly what is listed
pub search_is_listed : (cs : List Cell) (c : Cell) (r : Result ℕ ℕ) → IsRising cs → IsSearchInRange r (length cs) → IsBinarySearchResult (λ y. cell_cmp y c) cs r → is_ok r ≡ listed cs c.x c.y
search_is_listed cs c (Ok k) h within is = sym (list_any_at (same_cell c) cs k c within (ap is_eq (tied_back cells_total (get_or cs k c) c (is c))))
search_is_listed cs c (Err i) h within is =
    let parts = is (searchable_from_sorted cells_total (λ (a : Cell). a) cs c (sorted_from_rising cs h)) in
    sym (list_any_none (same_cell c) cs (λ k d lt. elim (cases_lt k i) [
      | inl below ↦ ap is_eq (turned (get_or cs k d) c Less (parts.0 k d (omega arith) below))
      | inr above ↦ ap is_eq (turned (get_or cs k d) c Greater (parts.1 k d above lt))
    ]))

pub contains_listed : (cs : List Cell) (c : Cell) → Contains cs c → listed cs c.x c.y ≡ true
contains_listed cs c h = list_any_at (same_cell c) cs h.0 c h.1 (ap (same_cell c) h.2 ∙ same_cell-itself c)

pub listed_contains : (cs : List Cell) (c : Cell) → listed cs c.x c.y ≡ true → Contains cs c
listed_contains cs c h =
    let there = Any-from_list_any (same_cell c) cs h in
    let same : c ≡ there.1 = same_cell_is c there.1 there.4 in
    (there.0, there.2, ap (λ d. get_or cs there.0 d) same ∙ there.3 ∙ sym same)

-- lists with the same cells list the same
pub same_listed : (cs ds : List Cell) → ((c : Cell) → Contains cs c → Contains ds c) → ((c : Cell) → Contains ds c → Contains cs c) → listed cs ≡ listed ds
same_listed cs ds f g = same_plane _ _ (λ x y. let c : Cell = record { y = y; x = x } in
    both_true_or_not (listed cs x y) (listed ds x y) (λ h. contains_listed ds c (f c (listed_contains cs c h))) (λ h. contains_listed cs c (g c (listed_contains ds c h))))
  where
    both_true_or_not : (a b : Bool) → (a ≡ true → b ≡ true) → (b ≡ true → a ≡ true) → a ≡ b
    both_true_or_not true b f g = sym (f refl)
    both_true_or_not false true f g = g refl
    both_true_or_not false false f g = refl
