-- The laws of the order of cells.
use Rattle.std.specs.Prelude.{◌≡◌, true, ◌⊎◌, ◌<ℤ◌, List, [], ◌∷◌, ◌++◌}
use Rattle.std.specs.declared.cmp.Ordering.{Ordering}
use Rattle.std.specs.declared.cmp.Ordering.TheVariants.{Less, Equal, Greater}
use Rattle.std.specs.Ordering.{int_cmp, ordering_then, ordering_reverse, is_lt, is_eq}
use Rattle.std.specs.Cmp.{IsTotalOrder, then_total, on_total, int_cmp_total, int_ranked, int_cmp_is, tied_itself, Equal-is}
use Rattle.std.specs.List.{AllByRecursion}
use Rattle.std.specs.List.Sorted.{IsStrictlySortedBy}
use Rattle.std.specs.FinSet.{IsAntisymmetric}
use Rattle.std.proofs.Common.{refl, sym, ap, ◌∙◌, inl, inr}
use Rattle.life_plane.specs.ListLaws.{all_push}
use Rattle.life_cells.specs.declared.cell.Cell.{Cell}
use Rattle.life_cells.specs.Cells.{cell_cmp, IsRising}
use Rattle.life_cells.specs.Listed.{same_cell}

pub cells_total : IsTotalOrder cell_cmp
cells_total = then_total (on_total (λ (c : Cell). c.y) int_cmp_total) (on_total (λ (c : Cell). c.x) int_cmp_total)

pub tied_first : (a b : Ordering) → ordering_then a b ≡ Equal → a ≡ Equal
tied_first Less b h = h
tied_first Equal b h = refl
tied_first Greater b h = h

pub tied_second : (a b : Ordering) → ordering_then a b ≡ Equal → b ≡ Equal
tied_second Less b h = cc
tied_second Equal b h = h
tied_second Greater b h = cc

-- what a test of the order says, and the order turned round
pub less_from_test : (o : Ordering) → is_lt o ≡ true → o ≡ Less
less_from_test Less h = refl
less_from_test Equal h = cc
less_from_test Greater h = cc

pub turned : (a b : Cell) (o : Ordering) → cell_cmp a b ≡ o → cell_cmp b a ≡ ordering_reverse o
turned a b o e = cells_total.antisymm b a ∙ ap ordering_reverse e

-- only equal cells tie
pub cells_antisymmetric : IsAntisymmetric cell_cmp
cells_antisymmetric a b e =
    let by_y = tied_first (int_cmp a.y b.y) (int_cmp a.x b.x) e in
    let by_x = tied_second (int_cmp a.y b.y) (int_cmp a.x b.x) e in
    let ys : a.y ≡ b.y = int_ranked a.y b.y Equal (sym by_y) in
    let xs : a.x ≡ b.x = int_ranked a.x b.x Equal (sym by_x) in
    λ i. record { y = ys i; x = xs i }

-- a test of two cells, read
pub same_cell_is : (a b : Cell) → same_cell a b ≡ true → a ≡ b
same_cell_is a b h = cells_antisymmetric a b ((Equal-is (cell_cmp a b)).0 h)

pub same_cell-itself : (a : Cell) → same_cell a a ≡ true
same_cell-itself a = ap is_eq (tied_itself cells_total a)

-- what it is to come before
pub comes_before : (a b : Cell) → cell_cmp a b ≡ Less → (a.y <ℤ b.y) ⊎ ((a.y ≡ b.y) × (a.x <ℤ b.x))
comes_before a b h =
    elim (int_cmp a.y b.y) as (λ o. int_cmp a.y b.y ≡ o → ordering_then o (int_cmp a.x b.x) ≡ Less → (a.y <ℤ b.y) ⊎ ((a.y ≡ b.y) × (a.x <ℤ b.x))) [
      | Less ↦ λ e _. inl (int_ranked a.y b.y Less (sym e))
      | Equal ↦ λ e k. inr (int_ranked a.y b.y Equal (sym e), int_ranked a.x b.x Less (sym k))
      | Greater ↦ λ e k. cc
    ] refl h

-- a cell of an earlier row comes before
pub before_by_row : (a b : Cell) → a.y <ℤ b.y → cell_cmp a b ≡ Less
before_by_row a b h = ap (λ o. ordering_then o (int_cmp a.x b.x)) (sym (int_cmp_is a.y b.y Less h))

-- a cell further left in the same row comes before
pub before_in_row : (a b : Cell) → a.y ≡ b.y → a.x <ℤ b.x → cell_cmp a b ≡ Less
before_in_row a b e h = ap (λ o. ordering_then o (int_cmp a.x b.x)) (sym (int_cmp_is a.y b.y Equal e)) ∙ sym (int_cmp_is a.x b.x Less h)

-- ---- lists that rise

pub rising-none : IsRising []
unfolding IsStrictlySortedBy
rising-none = tt

pub rising_head : (c : Cell) (cs : List Cell) → IsRising (c ∷ cs) → AllByRecursion (λ d. cell_cmp c d ≡ Less) cs
unfolding IsStrictlySortedBy
rising_head c cs h = h.0

pub rising_tail : (c : Cell) (cs : List Cell) → IsRising (c ∷ cs) → IsRising cs
unfolding IsStrictlySortedBy
rising_tail c cs h = h.1

-- one more cell after all others
pub rising_push : (cs : List Cell) (d : Cell) → IsRising cs → AllByRecursion (λ c. cell_cmp c d ≡ Less) cs → IsRising (cs ++ d ∷ [])
unfolding IsStrictlySortedBy
rising_push [] d h below = (tt, tt)
rising_push (c ∷ cs) d h below = (all_push (λ e. cell_cmp c e ≡ Less) cs d h.0 below.0, rising_push cs d h.1 below.1)
