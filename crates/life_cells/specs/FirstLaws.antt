-- The laws of first cells: there is one; in a list in order it has no earlier place; and where two sets differ.
use Rattle.std.proofs.Common.{◌≡◌, ◌≢◌, ℕ, ◌<◌, ◌≤◌, true, ℤ, List, get_or, Option, Some, None, refl, sym, ap, subst, ◌∙◌, arith, ◌⊎◌, inl, inr}
use Rattle.std.specs.declared.cmp.Ordering.TheVariants.{Less, Equal, Greater}
use Rattle.std.specs.Ordering.{ordering_reverse}
use Rattle.std.specs.List.{slice_get}
use Rattle.std.specs.Cmp.{tied_itself}
use Rattle.std.proofs.lemmas.Option.{slice_get_within, get_or_from_slice_get}
use Rattle.std.proofs.lemmas.Bool.{cases_lt}
use Rattle.std.proofs.lemmas.Map.Keys.{Less-from_sorted}
use Rattle.life_cells.specs.declared.cell.Cell.{Cell}
use Rattle.life_cells.specs.Cells.{cell, cell_cmp, IsRising, Cells, alive}
use Rattle.life_cells.specs.Listed.{listed}
use Rattle.life_cells.specs.OrderLaws.{cells_total, cells_antisymmetric}
use Rattle.life_cells.specs.Laws.{place_of_listed}
use Rattle.life_plane.specs.Plane.{Plane}
use Rattle.std.specs.Option.{MatchOption, IfSome, IfNone}
use Rattle.life_plane.specs.ListLaws.{same_item}
use Rattle.life_cells.specs.Difference.{IsFirstDifference}
use Rattle.life_cells.specs.Firsts.{IsFirstOf, IsFirstDifferent}

-- ---- one first cell

-- a property has one first cell
pub one_first : (P : ℤ → ℤ → Type 0) (c d : Cell) → IsFirstOf P c → IsFirstOf P d → c ≡ d
one_first P c d f g = elim (cell_cmp c d) as (λ o. cell_cmp c d ≡ o → c ≡ d) [
  | Less ↦ λ e. absurd (g.none_before c.x c.y f.is e)
  | Equal ↦ λ e. cells_antisymmetric c d e
  | Greater ↦ λ e. absurd (f.none_before d.x d.y g.is (cells_total.antisymm d c ∙ ap ordering_reverse e))
] refl

-- ---- places of a list in order

Less≢Equal : Less ≢ Equal
Less≢Equal h = cc

Less≢Greater : Less ≢ Greater
Less≢Greater h = cc

not_before_itself : (c : Cell) → cell_cmp c c ≢ Less
not_before_itself c h = Less≢Equal (sym h ∙ tied_itself cells_total c)

not_both_before : (c d : Cell) → cell_cmp c d ≡ Less → cell_cmp d c ≢ Less
not_both_before c d h k = Less≢Greater (sym h ∙ cells_total.antisymm c d ∙ ap ordering_reverse k)

-- a cell at an earlier place comes before
pub rising_places : (cs : List Cell) → IsRising cs → (i k : ℕ) (c d : Cell) → slice_get cs i ≡ Some c → slice_get cs k ≡ Some d → i < k → cell_cmp c d ≡ Less
rising_places cs rises i k c d at_i at_k lt =
    let less = Less-from_sorted cell_cmp cs i k c rises lt (slice_get_within cs k d at_k) in
    subst (λ e. cell_cmp e d ≡ Less) (get_or_from_slice_get cs i c c at_i) (subst (λ e. cell_cmp (get_or cs i c) e ≡ Less) (get_or_from_slice_get cs k d c at_k) less)

lt_or_same : (k i : ℕ) → i ≤ k → (i < k) ⊎ (i ≡ k)
lt_or_same k i h = grind arith

-- a cell that comes before stands at an earlier place
pub below_place : (cs : List Cell) → IsRising cs → (i k : ℕ) (c d : Cell) → slice_get cs i ≡ Some c → slice_get cs k ≡ Some d → cell_cmp d c ≡ Less → k < i
below_place cs rises i k c d at_i at_k before = elim (cases_lt k i) [ inl lt ↦ lt | inr ge ↦ absurd (later (lt_or_same k i ge)) ]
  where
    later : (i < k) ⊎ (i ≡ k) → ⊥
    later (inl lt) = not_both_before d c before (rising_places cs rises i k c d at_i at_k lt)
    later (inr same) = not_before_itself c (subst (λ e. cell_cmp e c ≡ Less) (same_item at_k (subst (λ n. slice_get cs n ≡ Some c) same at_i)) before)

-- ---- the first cell of a list with a property

pub first_place : (cs : List Cell) → IsRising cs → (P : ℤ → ℤ → Type 0) (i : ℕ) (c : Cell) → slice_get cs i ≡ Some c →
    ((k : ℕ) (d : Cell) → k < i → slice_get cs k ≡ Some d → P d.x d.y → ⊥) → (x y : ℤ) → listed cs x y ≡ true → P x y → cell_cmp (cell x y) c ≢ Less
first_place cs rises P i c at_i none x y here p before =
    let there = place_of_listed cs x y here in
    none there.0 (cell x y) (below_place cs rises i there.0 c (cell x y) at_i there.1 before) there.1 p

-- ---- the first cell in which two sets differ

-- as the first that changes, where the second is the next generation
pub changed : (s next : Cells) (t : Plane) (result : Option Cell) → alive next ≡ t → IfSome result (λ c. IsFirstDifference c (alive s) (alive next)) → IfNone result (s ≡ next) →
    MatchOption result (t ≡ alive s) (IsFirstDifferent t (alive s))
changed s next t None is some none = sym is ∙ ap alive (sym none)
changed s next t (Some c) is some none = record {
  is = λ e. some.differs (sym e ∙ ap (λ (p : Plane). p c.x c.y) (sym is));
  none_before = λ x y apart before. apart (ap (λ (p : Plane). p x y) (sym is) ∙ sym (some.same_before (cell x y) before));
}
