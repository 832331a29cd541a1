-- What no item of a list's front has, and what no item has.
use Rattle.std.proofs.Common.{◌≡◌, ℕ, ◌+◌, ◌<◌, ◌≤◌, zero, suc, List, [], ◌∷◌, ◌++◌, length, map, get_or, slice_get, Some, refl, sym, ap, ◌∙◌, arith}
use Rattle.std.proofs.lemmas.Option.{slice_get-get_or}
use borrow.Author.Count.{below_more}
use Rattle.book_parts.specs.Proper.{IsNoneOf}

-- none of the first items, so many of them, has this name
abbrev pub NoneBelow : {V : Type 0} → (V → List ℕ) → List V → List ℕ → ℕ → Type 0
NoneBelow name_of vs name i = (k : ℕ) → k < i → (v : _) → slice_get vs k ≡ Some v → name_of v ≡ name → ⊥

pub below_first : {V : Type 0} (name_of : V → List ℕ) (vs : List V) (name : List ℕ) → NoneBelow name_of vs name 0
below_first name_of vs name k l v e same = absurd (omega arith)

-- one more has not
pub below_next : {V : Type 0} (name_of : V → List ℕ) (vs : List V) (name : List ℕ) (i : ℕ) (here : V)
    → NoneBelow name_of vs name i → i < length vs → here ≡ get_or vs i here → (name_of here ≡ name → ⊥) → NoneBelow name_of vs name (i + 1)
below_next name_of vs name i here below l is other =
    below_more (λ (k : ℕ). (v : _) → slice_get vs k ≡ Some v → name_of v ≡ name → ⊥) i below (λ v e same.
    let found : slice_get vs i ≡ Some here = slice_get-get_or vs i here l ∙ ap Some (sym is) in
    let one : v ≡ here = cc in
    other (ap name_of (sym one) ∙ same))

-- none of all has
pub none_of_below : {V : Type 0} (name_of : V → List ℕ) (vs : List V) (name : List ℕ) (n : ℕ) → NoneBelow name_of vs name n → length vs ≤ n → IsNoneOf (map name_of vs) name
none_of_below name_of [] name n below l = tt
none_of_below name_of (v ∷ vs) name n below l = (
  λ e. below 0 (omega arith) v refl e,
  none_of_below name_of vs name (length vs) (λ k m w e same. below (suc k) (omega arith) w e same) (omega arith),
)

-- where none of all has, none at a place has
pub not_at_place : {V : Type 0} (name_of : V → List ℕ) (vs : List V) (name : List ℕ) (k : ℕ) (v : V) → IsNoneOf (map name_of vs) name → slice_get vs k ≡ Some v → name_of v ≡ name → ⊥
not_at_place name_of [] name k v h e same = absurd (cc e)
not_at_place name_of (w ∷ vs) name zero v h e same = let first : w ≡ v = cc in h.0 (ap name_of first ∙ same)
not_at_place name_of (w ∷ vs) name (suc k) v h e same = not_at_place name_of vs name k v h.1 e same

-- the item at a place
pub found_at : {V : Type 0} (vs : List V) (i : ℕ) (here : V) → i < length vs → here ≡ get_or vs i here → slice_get vs i ≡ Some here
found_at vs i here l is = slice_get-get_or vs i here l ∙ ap Some (sym is)

-- none of two lists
pub none_of_front : (names others : List (List ℕ)) (name : List ℕ) → IsNoneOf (names ++ others) name → IsNoneOf names name
none_of_front [] others name h = tt
none_of_front (n ∷ names) others name h = (h.0, none_of_front names others name h.1)

pub none_of_back : (names others : List (List ℕ)) (name : List ℕ) → IsNoneOf (names ++ others) name → IsNoneOf others name
none_of_back [] others name h = h
none_of_back (n ∷ names) others name h = none_of_back names others name h.1
