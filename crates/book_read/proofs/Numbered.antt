-- The numbers of kinds by their names.
use Rattle.std.proofs.Common.{◌≡◌, ℕ, ◌+◌, zero, suc, true, false, List, [], ◌∷◌, map, slice_get, Some, None, refl, sym, ap, ◌∙◌, arith, inl, inr}
use Rattle.std.proofs.lemmas.Slice.Eq.{bytes_eq-Decides}
use Rattle.std.proofs.lemmas.Bool.{cases_Bool}
use Rattle.std.specs.Str.{bytes_eq}
use Rattle.book_parts.specs.Proper.{IsNoneOf}
use Rattle.book_parts.specs.declared.kind.RawKind.{RawKind}
use Rattle.book_read.specs.Names.{number_from}
use Rattle.book_read.proofs.Searches.{NoneBelow}

abbrev pub name_of : RawKind → List ℕ
name_of kind = kind.name

other_name : (name other : List ℕ) → (other ≡ name → ⊥) → bytes_eq name other ≡ false
other_name name other h = elim (cases_Bool (bytes_eq name other)) [
  | inl same ↦ absurd (h (sym ((bytes_eq-Decides name other).0 same)))
  | inr none ↦ none
]

same_name : (name other : List ℕ) → other ≡ name → bytes_eq name other ≡ true
same_name name other e = (bytes_eq-Decides name other).1 (sym e)

-- none has the name
pub none_numbered : (n : ℕ) (kinds : List RawKind) (name : List ℕ) → IsNoneOf (map name_of kinds) name → number_from n kinds name ≡ None
none_numbered n [] name h = refl
none_numbered n (k ∷ kinds) name h = rw (other_name name k.name h.0) (none_numbered (n + 1) kinds name h.1)

-- the first that has it
pub one_numbered : (n : ℕ) (kinds : List RawKind) (name : List ℕ) (i : ℕ) (kind : RawKind) → NoneBelow name_of kinds name i → slice_get kinds i ≡ Some kind → kind.name ≡ name
    → number_from n kinds name ≡ Some (n + i)
one_numbered n [] name i kind below at same = absurd (cc at)
one_numbered n (k ∷ kinds) name zero kind below at same =
    let first : k ≡ kind = cc in
    let number : n ≡ n + 0 = omega arith in
    rw (same_name name k.name (ap name_of first ∙ same)) (ap Some number)
one_numbered n (k ∷ kinds) name (suc i) kind below at same =
    let number : (n + 1) + i ≡ n + suc i = omega arith in
    rw (other_name name k.name (λ e. below 0 (omega arith) k refl e))
    (one_numbered (n + 1) kinds name i kind (λ j l v e f. below (suc j) (omega arith) v e f) at same ∙ ap Some number)
