-- A cell put in its place in a list that rises.
use Rattle.std.proofs.Common.{◌≡◌, ℕ, zero, suc, ◌<◌, ◌≤◌, Bool, true, false, List, [], ◌∷◌, ◌++◌, length, take, drop, get_or, Result, Err, refl, sym, ap, subst, ◌∙◌, arith}
use Rattle.std.specs.Prelude.{◌||◌}
use Rattle.std.specs.declared.cmp.Ordering.TheVariants.{Less}
use Rattle.std.specs.Ordering.{ordering_reverse}
use Rattle.std.specs.List.{AllByRecursion, insert}
use Rattle.std.specs.List.Sorted.{IsStrictlySortedBy, IsBinarySearchResult, IsSearchInRange}
use Rattle.std.specs.Result.{is_ok}
use Rattle.std.proofs.lemmas.List.{take-append-drop}
use Rattle.std.proofs.lemmas.List.Sorted.{searchable_from_sorted}
use Rattle.life_cells.specs.declared.cell.Cell.{Cell}
use Rattle.life_cells.specs.Cells.{cell, cell_cmp, IsRising, Cells, alive, from_list}
use Rattle.life_cells.specs.Listed.{same_cell, listed}
use Rattle.life_cells.specs.Laws.{alive-from_list, alive-from_list_at, listed-append_at}
use Rattle.life_cells.specs.OrderLaws.{cells_total, same_cell_is}
use Rattle.life_cells.proofs.Places.{search_is_listed}
use Rattle.life_cells.specs.SortedLaws.{sorted_from_rising}
use Rattle.life_plane.specs.Plane.{union, same_plane}

-- a search of the items says whether the cell is in the set
pub search_is_alive : (items cs : List Cell) (c : Cell) (s : Cells) (r : Result ℕ ℕ) → items ≡ cs → from_list cs ≡ s → IsRising cs → IsSearchInRange r (length items) → IsBinarySearchResult (λ y. cell_cmp y c) items r → is_ok r ≡ alive s c.x c.y
search_is_alive items cs c s r same e h within is =
    search_is_listed items c r (subst IsRising (sym same) h) within is ∙ sym (alive-from_list_at items c.x c.y) ∙ ap (λ t. alive t c.x c.y) (ap from_list same ∙ e)

-- a cell that is there changes nothing
pub there_already : (s : Cells) (c : Cell) → alive s c.x c.y ≡ true → alive s ≡ union (alive s) (listed (c ∷ []))
there_already s c h = same_plane _ _ (λ x y.
    elim (same_cell (cell x y) c) as (λ b. same_cell (cell x y) c ≡ b → alive s x y ≡ (alive s x y || (b || false))) [
      | true ↦ λ e. let l : alive s x y ≡ true = ap (λ (d : Cell). alive s d.x d.y) (same_cell_is (cell x y) c e) ∙ h in l ∙ sym (ap (λ a. a || true) l)
      | false ↦ λ e. sym (or_false (alive s x y))
    ] refl)
  where
    or_false : (a : Bool) → (a || false) ≡ a
    or_false true = refl
    or_false false = refl

each_in_front : (P : Cell → Type 0) (cs : List Cell) (i : ℕ) → i ≤ length cs → ((k : ℕ) (d : Cell) → k < i → P (get_or cs k d)) → AllByRecursion P (take i cs)
each_in_front P cs zero le h = tt
each_in_front P [] (suc i) le h = tt
each_in_front P (c ∷ cs) (suc i) le h = (h 0 c (omega arith), each_in_front P cs i (omega arith) (λ k d lt. h (suc k) d (omega arith)))

each_behind : (P : Cell → Type 0) (cs : List Cell) (i : ℕ) → ((k : ℕ) (d : Cell) → i ≤ k → k < length cs → P (get_or cs k d)) → AllByRecursion P (drop i cs)
each_behind P [] zero h = tt
each_behind P (c ∷ cs) zero h = (h 0 c (omega arith) (omega arith), each_behind P cs zero (λ k d le lt. h (suc k) d (omega arith) (omega arith)))
each_behind P [] (suc i) h = tt
each_behind P (c ∷ cs) (suc i) h = each_behind P cs i (λ k d le lt. h (suc k) d (omega arith) (omega arith))

each_with : (P : Cell → Type 0) (front : List Cell) (c : Cell) (back : List Cell) → P c → AllByRecursion P (front ++ back) → AllByRecursion P (front ++ c ∷ back)
each_with P [] c back p h = (p, h)
each_with P (d ∷ front) c back p h = (h.0, each_with P front c back p h.1)

rising_with : (front : List Cell) (c : Cell) (back : List Cell) → IsRising (front ++ back) → AllByRecursion (λ d. cell_cmp d c ≡ Less) front → AllByRecursion (λ d. cell_cmp c d ≡ Less) back → IsRising (front ++ c ∷ back)
unfolding IsStrictlySortedBy
rising_with [] c back h below above = (above, h)
rising_with (d ∷ front) c back h below above = (each_with (λ e. cell_cmp d e ≡ Less) front c back below.0 h.0, rising_with front c back h.1 below.1 above)

rising_insert : (cs next : List Cell) (c : Cell) (i : ℕ) → IsRising cs → i ≤ length cs → IsBinarySearchResult (λ y. cell_cmp y c) cs (Err i) → next ≡ insert cs i c → IsRising next
rising_insert cs next c i h le is e =
    let parts = is (searchable_from_sorted cells_total (λ (a : Cell). a) cs c (sorted_from_rising cs h)) in
    let below = each_in_front (λ d. cell_cmp d c ≡ Less) cs i le (λ k d lt. parts.0 k d (omega arith) lt) in
    let above = each_behind (λ d. cell_cmp c d ≡ Less) cs i (λ k d low lt. cells_total.antisymm c (get_or cs k d) ∙ ap ordering_reverse (parts.1 k d low lt)) in
    subst IsRising (sym e) (rising_with (take i cs) c (drop i cs) (subst IsRising (sym (take-append-drop i cs)) h) below above)

pub rising_inserted : (items cs next : List Cell) (c : Cell) (i : ℕ) → items ≡ cs → IsRising cs → i ≤ length items → IsBinarySearchResult (λ y. cell_cmp y c) items (Err i) → next ≡ insert cs i c → IsRising next
rising_inserted items cs next c i same h le is e = rising_insert cs next c i h (subst (λ xs. i ≤ length xs) same le) (subst (λ xs. IsBinarySearchResult (λ y. cell_cmp y c) xs (Err i)) same is) e

or_moved : (a b c : Bool) → (a || (b || c)) ≡ ((a || c) || (b || false))
or_moved true b c = refl
or_moved false true true = refl
or_moved false true false = refl
or_moved false false true = refl
or_moved false false false = refl

pub alive_inserted : (cs next : List Cell) (c : Cell) (i : ℕ) (s : Cells) → from_list cs ≡ s → next ≡ insert cs i c → alive (from_list next) ≡ union (alive s) (listed (c ∷ []))
alive_inserted cs next c i s e f = alive-from_list next ∙ same_plane _ _ (λ x y.
    ap (λ xs. listed xs x y) f
    ∙ listed-append_at (take i cs) (c ∷ drop i cs) x y
    ∙ or_moved (listed (take i cs) x y) (same_cell (cell x y) c) (listed (drop i cs) x y)
    ∙ ap (λ b. b || listed (c ∷ []) x y) (sym (listed-append_at (take i cs) (drop i cs) x y) ∙ ap (λ xs. listed xs x y) (take-append-drop i cs) ∙ sym (alive-from_list_at cs x y) ∙ ap (λ t. alive t x y) e))
