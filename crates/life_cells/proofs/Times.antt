-- How often a list has a cell.
use Rattle.std.proofs.Common.{◌≡◌, ◌+◌, true, false, cond, List, [], ◌∷◌, ◌++◌, map, refl, sym, ap, ◌∙◌, arith}
use Rattle.std.specs.Prelude.{ℤ, ◌-ℤ◌, ◌||◌}
use Rattle.std.specs.declared.cmp.Ordering.TheVariants.{Less}
use Rattle.std.specs.List.{AllByRecursion, count_by}
use Rattle.std.specs.List.Sorted.{IsStrictlySortedBy, IsPermutation}
use Rattle.std.specs.Ordering.{is_eq}
use Rattle.std.proofs.lemmas.List.Sums.{sum_by-cons}
use Rattle.std.proofs.lemmas.List.Sorted.{sum_by-IsPermutation}
use Rattle.life_cells.specs.declared.cell.Cell.{Cell}
use Rattle.life_cells.specs.Cells.{cell, cell_cmp, IsRising}
use Rattle.life_cells.specs.Listed.{same_cell, listed, times}
use Rattle.life_cells.specs.Moved.{moved}
use Rattle.life_cells.specs.OrderLaws.{same_cell_is}
use Rattle.life_cells.specs.MovedLaws.{same_cell-moved}
use Rattle.life_plane.specs.Plane.{one_if}

pub times-append : (cs ds : List Cell) (x y : ℤ) → times (cs ++ ds) x y ≡ times cs x y + times ds x y
times-append [] ds x y = omega arith
times-append (c ∷ cs) ds x y = omega (arith, times-append cs ds x y)

pub times-moved : (dx dy : ℤ) (cs : List Cell) (x y : ℤ) → times (map (moved dx dy) cs) x y ≡ times cs (x -ℤ dx) (y -ℤ dy)
times-moved dx dy [] x y = refl
times-moved dx dy (c ∷ cs) x y = λ i. one_if (same_cell-moved dx dy x y c i) + times-moved dx dy cs x y i

times_is_count : (cs : List Cell) (x y : ℤ) → times cs x y ≡ count_by (same_cell (cell x y)) cs
times_is_count [] x y = refl
times_is_count (c ∷ cs) x y = ap (λ n. one_if (same_cell (cell x y) c) + n) (times_is_count cs x y) ∙ sym (sum_by-cons (λ d. cond (same_cell (cell x y) d) 1 0) c cs)

-- a sort keeps how often each cell is listed
pub times-permutation : (cs ds : List Cell) (x y : ℤ) → IsPermutation cs ds → times ds x y ≡ times cs x y
times-permutation cs ds x y h = times_is_count ds x y ∙ sum_by-IsPermutation (λ d. cond (same_cell (cell x y) d) 1 0) cs ds h ∙ sym (times_is_count cs x y)

-- a cell before all listed ones is not listed
pub none_before : (c : Cell) (cs : List Cell) → AllByRecursion (λ d. cell_cmp c d ≡ Less) cs → times cs c.x c.y ≡ 0
none_before c [] h = refl
none_before c (d ∷ cs) h = let e : same_cell c d ≡ false = ap is_eq h.0 in let r = none_before c cs h.1 in rw e (omega arith)

-- a list that rises has each of its cells once
pub times-rising : (cs : List Cell) (x y : ℤ) → IsRising cs → times cs x y ≡ one_if (listed cs x y)
unfolding IsStrictlySortedBy
times-rising [] x y h = refl
times-rising (c ∷ cs) x y h =
    elim (same_cell (cell x y) c) as (λ b. same_cell (cell x y) c ≡ b → one_if b + times cs x y ≡ one_if (b || listed cs x y)) [
      | true ↦ λ e. let s = same_cell_is (cell x y) c e in ap (λ n. 1 + n) (ap (λ (d : Cell). times cs d.x d.y) s ∙ none_before c cs h.0)
      | false ↦ λ e. let r = times-rising cs x y h.1 in omega arith
    ] refl
