-- The table of the places that were found.
use Rattle.std.proofs.Common.{◌≡◌, ◌⊎◌, ℕ, zero, suc, ◌+◌, ◌<◌, List, [], ◌∷◌, ◌++◌, length, get_or, refl, sym, ap, subst, ◌∙◌, inl, inr, arith, get_or-set_same, get_or-set_other}
use Rattle.std.proofs.Math.ListN.{set, length-set}
use Rattle.std.specs.List.{Contains}
use Rattle.std.specs.declared.option.Option.TheVariants.{Some}
use Rattle.std.proofs.lemmas.List.{get_or_push, get_or_append_left, length_push}
use Rattle.std.proofs.lemmas.Option.{slice_get-get_or, slice_get_within}
use Rattle.std.proofs.lemmas.Bool.{cases_eq}
use Rattle.std.proofs.lemmas.List.{get_or-replicate}
use Rattle.std.proofs.Math.ListN.{replicate, length-replicate}
use Rattle.life_plane.specs.ListLaws.{at_left}
use Rattle.life_plane.specs.NumberLaws.{lt_or_same}
use Rattle.life_cells.specs.declared.cell.Cell.{Cell}
use Rattle.life_cells.specs.declared.bounds.Bounds.{Bounds}
use Rattle.life_cells.specs.Boxes.{InBox}
use Rattle.hand_route.specs.Rooms.{IsRoom, size_of, index_in, IsEntry, IsTable}
use Rattle.hand_route.proofs.Indexed.{index_within, one_place}

none_contained : (at : Cell) → Contains [] at → ⊥
none_contained at h = let lt = h.1 in omega arith

pub contains_more : (cells : List Cell) (next at : Cell) → Contains cells at → Contains (cells ++ next ∷ []) at
contains_more cells next at h = (h.0, omega (arith, h.1, length_push cells next), get_or_append_left cells (next ∷ []) at h.0 h.1 ∙ h.2)

pub contains_last : (cells : List Cell) (next : Cell) → Contains (cells ++ next ∷ []) next
contains_last cells next = (length cells, omega (arith, length_push cells next), get_or_push cells next next (length cells) refl)

pub contained_cases : (cells : List Cell) (next at : Cell) → Contains (cells ++ next ∷ []) at → Contains cells at ⊎ (at ≡ next)
contained_cases cells next at h = elim (lt_or_same h.0 (length cells) (omega (arith, h.1, length_push cells next))) [
  | inl less ↦ inl (h.0, less, sym (get_or_append_left cells (next ∷ []) at h.0 less) ∙ h.2)
  | inr is ↦ inr (sym h.2 ∙ get_or_push cells next at h.0 (sym is))
]

-- an entry of another place stays
entry_stays : (cells : List Cell) (next at : Cell) (n : ℕ) → (at ≡ next → ⊥) → IsEntry cells at n → IsEntry (cells ++ next ∷ []) at n
entry_stays cells next at zero other none = λ there. elim (contained_cases cells next at there) [ inl was ↦ none was | inr last ↦ other last ]
entry_stays cells next at (suc k) other here = at_left cells (next ∷ []) k (slice_get_within cells k at here) ∙ here

-- that of the last place
entry_of_last : (cells : List Cell) (next : Cell) → IsEntry (cells ++ next ∷ []) next (suc (length cells))
entry_of_last cells next = slice_get-get_or (cells ++ next ∷ []) (length cells) next (omega (arith, length_push cells next)) ∙ ap Some (get_or_push cells next next (length cells) refl)

-- a place more, where its entry says so
pub table_more : (room : Bounds) (cells : List Cell) (table : List ℕ) (next : Cell) → IsRoom room → InBox room next.x next.y → (Contains cells next → ⊥) → IsTable room cells table →
    IsTable room (cells ++ next ∷ []) (set table (index_in room next) (length cells + 1))
table_more room cells table next is inside new h = record {
  long = length-set table (index_in room next) (length cells + 1) ∙ h.long;
  inside = λ at there. elim (contained_cases cells next at there) [ inl was ↦ h.inside at was | inr last ↦ subst (λ (c : Cell). InBox room c.x c.y) (sym last) inside ];
  entries = λ at i. elim (cases_eq (index_in room next) (index_in room at)) [
    | inl same ↦ at_last at (one_place room next at is inside i same)
    | inr differ ↦ subst (IsEntry (cells ++ next ∷ []) at) (sym (other_entry at differ)) (entry_stays cells next at _ (λ e. differ (sym (ap (index_in room) e))) (h.entries at i))
  ];
}
  where
    mark : ℕ
    mark = length cells + 1

    long : index_in room next < length table
    long = let w = index_within room next is inside in let l = h.long in omega arith

    other_entry : (at : Cell) → (index_in room next ≡ index_in room at → ⊥) → get_or (set table (index_in room next) mark) (index_in room at) 0 ≡ get_or table (index_in room at) 0
    other_entry at differ = get_or-set_other table (index_in room next) (index_in room at) mark 0 (λ e. differ (sym e))

    one_more : (n : ℕ) → n + 1 ≡ suc n
    one_more n = omega arith

    last_entry : get_or (set table (index_in room next) mark) (index_in room next) 0 ≡ suc (length cells)
    last_entry = get_or-set_same table (index_in room next) mark 0 long ∙ one_more (length cells)

    at_last : (at : Cell) → next ≡ at → IsEntry (cells ++ next ∷ []) at (get_or (set table (index_in room next) mark) (index_in room at) 0)
    at_last at same =
        subst (λ (c : Cell). IsEntry (cells ++ next ∷ []) c (get_or (set table (index_in room next) mark) (index_in room c) 0)) same
        (subst (IsEntry (cells ++ next ∷ []) next) (sym last_entry) (entry_of_last cells next))

-- a table of zeros has no place
pub table_of_none : (room : Bounds) (n : ℕ) → n ≡ size_of room → IsRoom room → IsTable room [] (replicate n 0)
table_of_none room n e is = record {
  long = length-replicate n 0 ∙ e;
  inside = λ at there. absurd (none_contained at there);
  entries = λ at i. subst (IsEntry [] at) (sym (get_or-replicate n (index_in room at) 0 0 (let w = index_within room at is i in omega arith))) (none_contained at);
}

pub table_of_one : (room : Bounds) (from : Cell) (cells : List Cell) (table : List ℕ) (n index : ℕ) → n ≡ size_of room → index ≡ index_in room from → IsRoom room → InBox room from.x from.y → cells ≡ from ∷ [] → table ≡ replicate n 0 →
    IsRoom room × IsTable room cells (set table index 1)
table_of_one room from cells table n index e at is inside one zeros = (
  is,
  subst (λ (cs : List Cell). IsTable room cs (set table index 1)) (sym one) (subst (λ (t : List ℕ). IsTable room (from ∷ []) (set t index 1)) (sym zeros)
      (subst (λ (i : ℕ). IsTable room (from ∷ []) (set (replicate n 0) i 1)) (sym at) (table_more room [] (replicate n 0) from is inside (none_contained from) (table_of_none room n e is)))),
)

pub table_of_more : (room : Bounds) (next : Cell) (cells after : List Cell) (table : List ℕ) (index count : ℕ) → index ≡ index_in room next → IsRoom room × IsTable room cells table → InBox room next.x next.y →
    (Contains cells next → ⊥) → after ≡ cells ++ next ∷ [] → count ≡ length after → IsRoom room × IsTable room after (set table index count)
table_of_more room next cells after table index count at h inside new grown is = (
  h.0,
  subst (λ (cs : List Cell). IsTable room cs (set table index count)) (sym grown)
      (subst (λ (i : ℕ). IsTable room (cells ++ next ∷ []) (set table i count)) (sym at)
      (subst (λ (n : ℕ). IsTable room (cells ++ next ∷ []) (set table (index_in room next) n)) (sym many) (table_more room cells table next h.0 inside new h.1))),
)
  where
    many : count ≡ length cells + 1
    many = is ∙ ap length grown ∙ length_push cells next
