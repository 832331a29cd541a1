-- The laws of finite sets of cells.
use Rattle.std.specs.Prelude.{◌≡◌, Bool, true, false, cond, ◌||◌, ◌&&◌, ℕ, ◌<◌, length, ℤ, List, [], ◌∷◌, ◌++◌, map, Option, Some, None, is_some, slice_get, T}
use Rattle.std.specs.declared.cmp.Ordering.{Ordering}
use Rattle.std.specs.declared.cmp.Ordering.TheVariants.{Less, Equal, Greater}
use Rattle.std.specs.Ordering.{is_lt}
use Rattle.std.specs.List.{AllByRecursion}
use Rattle.std.specs.List.Sorted.{IsStrictlySortedBy}
use Rattle.std.specs.FinMap as finite
use Rattle.std.specs.FinMap.Entries.{find, is_sorted, below_all}
use Rattle.std.proofs.Common.{get_or, refl, sym, ap, subst, ◌∙◌}
use Rattle.std.proofs.lemmas.List.Folds.{list_any-append, list_any_at, Any-from_list_any}
use Rattle.std.proofs.lemmas.Option.{slice_get_within, get_or_from_slice_get, slice_get-get_or}
use Rattle.std.proofs.Math.Facts.{yes_and}
use Rattle.life_cells.specs.declared.cell.Cell.{Cell}
use Rattle.life_cells.specs.Cells.{cell, cell_cmp, Cells, entry, alive, in_order, from_list, empty, IsRising}
use Rattle.life_cells.specs.Listed.{same_cell, listed}
use Rattle.life_cells.specs.OrderLaws.{cells_total, cells_antisymmetric, same_cell_is, same_cell-itself, rising-none}
use Rattle.life_plane.specs.Plane.{Plane, nothing, union, same_plane}

-- ---- sets by what lives

same_bools : (b : Bool) (x : Option (Unit {0})) → is_some x ≡ b → x ≡ cond b (Some tt) None
same_bools true None h = cc
same_bools true (Some u) h = refl
same_bools false None h = refl
same_bools false (Some u) h = cc

-- sets with the same live cells are equal
pub same_cells_at : (s t : Cells) → ((x y : ℤ) → alive s x y ≡ alive t x y) → s ≡ t
unfolding alive
same_cells_at s t is = finite.same_map cells_total cells_antisymmetric s t (λ q. same_bools _ _ (is q.x q.y) ∙ sym (same_bools _ _ refl))

pub same_cells : (s t : Cells) → alive s ≡ alive t → s ≡ t
same_cells s t e = same_cells_at s t (λ x y. ap (λ (p : Plane). p x y) e)

pub alive-in_order_at : (s : Cells) (x y : ℤ) → alive s x y ≡ listed (in_order s) x y
unfolding alive in_order
alive-in_order_at s x y = finite.contains_key-keys s (cell x y)

-- what lives is what is in order
pub alive-in_order : (s : Cells) → alive s ≡ listed (in_order s)
alive-in_order s = same_plane _ _ (alive-in_order_at s)

-- what is listed in order is what lives
pub alive_of_order : (cs : List Cell) (s : Cells) → cs ≡ in_order s → listed cs ≡ alive s
alive_of_order cs s e = ap listed e ∙ sym (alive-in_order s)

found : (cs : List Cell) (x y : ℤ) → is_some (find cell_cmp (cell x y) (map entry cs)) ≡ listed cs x y
found [] x y = refl
found (c ∷ cs) x y =
    elim (same_cell (cell x y) c) as (λ b. is_some (cond b (Some tt) (find cell_cmp (cell x y) (map entry cs))) ≡ (b || listed cs x y)) [ true ↦ refl | false ↦ found cs x y ]

pub alive-from_list_at : (cs : List Cell) (x y : ℤ) → alive (from_list cs) x y ≡ listed cs x y
unfolding alive from_list
alive-from_list_at cs x y = ap is_some (finite.get-from_entries cells_total (map entry cs) (cell x y)) ∙ found cs x y

-- what lives in the set of a list is what is listed
pub alive-from_list : (cs : List Cell) → alive (from_list cs) ≡ listed cs
alive-from_list cs = same_plane _ _ (alive-from_list_at cs)

pub alive-empty : alive empty ≡ nothing
unfolding alive empty
alive-empty = same_plane _ _ (λ x y. ap is_some (finite.get-empty cell_cmp (cell x y)))

pub from_list-none : from_list [] ≡ empty
unfolding from_list empty
from_list-none = refl

-- two lists that list the same cells make one set
pub same_lists : (cs ds : List Cell) → listed cs ≡ listed ds → from_list cs ≡ from_list ds
same_lists cs ds e = same_cells _ _ (alive-from_list cs ∙ e ∙ sym (alive-from_list ds))

-- a set is made of its cells
pub from_list-in_order : (s : Cells) → from_list (in_order s) ≡ s
from_list-in_order s = same_cells _ _ (alive-from_list (in_order s) ∙ sym (alive-in_order s))

-- ---- in order

first_holds : (a b : Bool) → T (a && b) → T a
first_holds true b p = tt
first_holds false b p = p

second_holds : (a b : Bool) → T (a && b) → T b
second_holds true b p = p
second_holds false b p = absurd p

before : (o : Ordering) → T (is_lt o) → o ≡ Less
before Less p = refl
before Equal p = absurd p
before Greater p = absurd p

abbrev Entry : Type 0
Entry = Cell × Unit {0}

all_after : (c : Cell) (es : List Entry) → T (below_all cell_cmp c es) → AllByRecursion (λ d. cell_cmp c d ≡ Less) (map (λ e. e.0) es)
all_after c [] h = tt
all_after c (e ∷ es) h = (before (cell_cmp c e.0) (first_holds _ _ h), all_after c es (second_holds _ _ h))

rising_keys : (es : List Entry) → T (is_sorted cell_cmp es) → IsRising (map (λ e. e.0) es)
unfolding IsStrictlySortedBy
rising_keys [] h = tt
rising_keys (e ∷ es) h = (all_after e.0 es (first_holds _ _ h), rising_keys es (second_holds _ _ h))

-- the cells of a set come in order, each once
pub rising-in_order : (s : Cells) → IsRising (in_order s)
unfolding in_order
rising-in_order s = rising_keys _ (finite.entries_sorted s)

all_below : (c : Cell) (cs : List Cell) → AllByRecursion (λ d. cell_cmp c d ≡ Less) cs → T (below_all cell_cmp c (map entry cs))
all_below c [] h = tt
all_below c (d ∷ cs) h = yes_and _ _ (subst (λ o. T (is_lt o)) (sym h.0) tt) (all_below c cs h.1)

rising_entries : (cs : List Cell) → IsRising cs → T (is_sorted cell_cmp (map entry cs))
unfolding IsStrictlySortedBy
rising_entries [] h = tt
rising_entries (c ∷ cs) h = yes_and _ _ (all_below c cs h.0) (rising_entries cs h.1)

keys_of_entries : (cs : List Cell) → map (λ (e : Entry). e.0) (map entry cs) ≡ cs
keys_of_entries [] = refl
keys_of_entries (c ∷ cs) = ap (λ ds. c ∷ ds) (keys_of_entries cs)

sorted_set : (cs : List Cell) → IsRising cs → from_list cs ≡ finite.from_sorted (map entry cs)
unfolding from_list
sorted_set cs h = finite.same_map cells_total cells_antisymmetric _ _ (λ q.
    finite.get-from_entries cells_total (map entry cs) q ∙ sym (finite.get-from_sorted cell_cmp (map entry cs) q (rising_entries cs h)))

-- a list that rises is the order of its set
pub in_order-from_list : (cs : List Cell) → IsRising cs → in_order (from_list cs) ≡ cs
unfolding in_order
in_order-from_list cs h =
    ap (λ s. finite.keys s) (sorted_set cs h) ∙ ap (λ es. map (λ (e : Entry). e.0) es) (finite.entries-from_sorted cell_cmp (map entry cs) (rising_entries cs h)) ∙ keys_of_entries cs

pub in_order_is : (cs : List Cell) (s : Cells) → from_list cs ≡ s → IsRising cs → in_order s ≡ cs
in_order_is cs s e h = ap in_order (sym e) ∙ in_order-from_list cs h

-- lists that rise and list the same cells are equal
pub same_rising : (cs ds : List Cell) → IsRising cs → IsRising ds → listed cs ≡ listed ds → cs ≡ ds
same_rising cs ds f g e = sym (in_order-from_list cs f) ∙ ap in_order (same_lists cs ds e) ∙ in_order-from_list ds g

-- ---- unions

pub listed-append_at : (cs ds : List Cell) (x y : ℤ) → listed (cs ++ ds) x y ≡ (listed cs x y || listed ds x y)
listed-append_at cs ds x y = list_any-append (same_cell (cell x y)) cs ds

pub listed-append : (cs ds : List Cell) → listed (cs ++ ds) ≡ union (listed cs) (listed ds)
listed-append cs ds = same_plane _ _ (listed-append_at cs ds)

-- ---- the empty set

pub in_order-empty : in_order empty ≡ []
in_order-empty = ap in_order (sym from_list-none) ∙ in_order-from_list [] rising-none

-- a set with no cell in order is empty
pub empty_of_none : (s : Cells) → in_order s ≡ [] → s ≡ empty
empty_of_none s e = sym (from_list-in_order s) ∙ ap from_list e ∙ from_list-none

-- ---- by places

-- the cell at a place is listed
pub listed_at_place : (cs : List Cell) (k : ℕ) (c : Cell) → slice_get cs k ≡ Some c → listed cs c.x c.y ≡ true
listed_at_place cs k c h =
    list_any_at (same_cell c) cs k c (slice_get_within cs k c h) (ap (same_cell c) (get_or_from_slice_get cs k c c h) ∙ same_cell-itself c)

-- what a list has at a place is listed
pub place_listed : (cs : List Cell) (k : ℕ) (d : Cell) → k < length cs → listed cs (get_or cs k d).x (get_or cs k d).y ≡ true
place_listed cs k d lt = list_any_at (same_cell (get_or cs k d)) cs k d lt (same_cell-itself (get_or cs k d))

-- a listed cell has a place
pub place_of_listed : (cs : List Cell) (x y : ℤ) → listed cs x y ≡ true → (k : ℕ) × (slice_get cs k ≡ Some (cell x y))
place_of_listed cs x y h =
    let there = Any-from_list_any (same_cell (cell x y)) cs h in
    (there.0, slice_get-get_or cs there.0 there.1 there.2 ∙ ap Some (there.3 ∙ sym (same_cell_is (cell x y) there.1 there.4)))
