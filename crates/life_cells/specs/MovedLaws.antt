-- Cells moved by one distance: their order stays.
use Rattle.std.proofs.Common.{◌≡◌, ℕ, ◌+◌, ◌<◌, List, [], ◌∷◌, ◌++◌, length, take, get_or, map, append_assoc, refl, sym, ap, ◌∙◌, arith}
use Rattle.std.specs.Prelude.{ℤ, ◌+ℤ◌, ◌-ℤ◌, ◌<ℤ◌, ◌||◌}
use Rattle.std.specs.declared.cmp.Ordering.{Ordering}
use Rattle.std.specs.declared.cmp.Ordering.TheVariants.{Less, Equal, Greater}
use Rattle.std.specs.Ordering.{int_cmp, ordering_then, is_eq, MatchOrdering}
use Rattle.std.specs.Cmp.{int_ranked, int_cmp_is}
use Rattle.std.specs.List.{AllByRecursion}
use Rattle.std.specs.List.Sorted.{IsStrictlySortedBy}
use Rattle.std.proofs.lemmas.Int.{ints}
use Rattle.std.proofs.lemmas.List.{map_more}
use Rattle.life_cells.specs.declared.cell.Cell.{Cell}
use Rattle.life_cells.specs.Cells.{cell, cell_cmp, IsRising}
use Rattle.life_cells.specs.Listed.{same_cell, listed}
use Rattle.life_cells.specs.Moved.{moved}

ranked_moved : (a b d : ℤ) (r : Ordering) → MatchOrdering r (a <ℤ b) (a ≡ b) (b <ℤ a) → MatchOrdering r ((a +ℤ d) <ℤ (b +ℤ d)) (a +ℤ d ≡ b +ℤ d) ((b +ℤ d) <ℤ (a +ℤ d))
ranked_moved a b d Less h = omega (arith, ints)
ranked_moved a b d Equal h = ap (λ z. z +ℤ d) h
ranked_moved a b d Greater h = omega (arith, ints)

int_cmp-moved : (a b d : ℤ) → int_cmp (a +ℤ d) (b +ℤ d) ≡ int_cmp a b
int_cmp-moved a b d = sym (int_cmp_is (a +ℤ d) (b +ℤ d) (int_cmp a b) (ranked_moved a b d (int_cmp a b) (int_ranked a b (int_cmp a b) refl)))

pub cell_cmp-moved : (dx dy : ℤ) (a b : Cell) → cell_cmp (moved dx dy a) (moved dx dy b) ≡ cell_cmp a b
cell_cmp-moved dx dy a b = λ i. ordering_then (int_cmp-moved a.y b.y dy i) (int_cmp-moved a.x b.x dx i)

back : (x d : ℤ) → x ≡ (x -ℤ d) +ℤ d
back x d = omega (arith, ints)

pub same_cell-moved : (dx dy x y : ℤ) (c : Cell) → same_cell (cell x y) (moved dx dy c) ≡ same_cell (cell (x -ℤ dx) (y -ℤ dy)) c
same_cell-moved dx dy x y c =
    (λ i. same_cell (cell (back x dx i) (back y dy i)) (moved dx dy c)) ∙ ap is_eq (cell_cmp-moved dx dy (cell (x -ℤ dx) (y -ℤ dy)) c)

-- a moved cell is listed where the cell itself was
pub listed-moved : (dx dy : ℤ) (cs : List Cell) (x y : ℤ) → listed (map (moved dx dy) cs) x y ≡ listed cs (x -ℤ dx) (y -ℤ dy)
listed-moved dx dy [] x y = refl
listed-moved dx dy (c ∷ cs) x y = λ i. same_cell-moved dx dy x y c i || listed-moved dx dy cs x y i

after_moved : (dx dy : ℤ) (c : Cell) (cs : List Cell) → AllByRecursion (λ d. cell_cmp c d ≡ Less) cs → AllByRecursion (λ d. cell_cmp (moved dx dy c) d ≡ Less) (map (moved dx dy) cs)
after_moved dx dy c [] h = tt
after_moved dx dy c (d ∷ cs) h = (cell_cmp-moved dx dy c d ∙ h.0, after_moved dx dy c cs h.1)

-- cells that rise still rise
pub rising-moved : (dx dy : ℤ) (cs : List Cell) → IsRising cs → IsRising (map (moved dx dy) cs)
unfolding IsStrictlySortedBy
rising-moved dx dy [] h = tt
rising-moved dx dy (c ∷ cs) h = (after_moved dx dy c cs h.0, rising-moved dx dy cs h.1)

-- a loop's step: one more cell, mapped, at the end
pub push_mapped : (f : Cell → Cell) (base now next cs : List Cell) (i : ℕ) (c d : Cell) → i < length cs → next ≡ now ++ c ∷ [] → now ≡ base ++ map f (take i cs) → c ≡ f (get_or cs i d) → next ≡ base ++ map f (take (i + 1) cs)
push_mapped f base now next cs i c d lt e g h =
    e ∙ (λ j. g j ++ h j ∷ []) ∙ append_assoc base (map f (take i cs)) (f (get_or cs i d) ∷ []) ∙ ap (λ xs. base ++ xs) (sym (map_more f cs i d lt))
