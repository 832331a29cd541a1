-- A name is looked for among entries, one by one.
use Rattle.std.proofs.Common.{◌≡◌, ◌≢◌, ℕ, zero, suc, ◌+◌, ◌<◌, ◌≤◌, List, [], ◌∷◌, ◌++◌, length, map, take, get_or, sym, ap, subst, ◌∙◌, arith}
use Rattle.std.proofs.lemmas.List.{take_more, take_all, map-append}
use Rattle.life_plane.specs.ListLaws.{all_append, all_push}
use Rattle.book_parts.specs.Proper.{IsNoneOf}
use Rattle.book_parts.specs.declared.salvo.RawSalvo.{RawSalvo}
use Rattle.book_parts.specs.declared.turn.RawTurn.{RawTurn}
use Rattle.recipe_turn.specs.Checked.{Checked, raws}
use Rattle.recipe_hit.specs.Checked.{Struck}
use Rattle.recipe_book.specs.Checked.{raw_salvos}

-- the names of entries that are checked
abbrev pub names_by : {X R : Type 0} → (R → List ℕ) → (X → R) → List X → List (List ℕ)
names_by f g xs = map f (map g xs)

pub names_more : {X R : Type 0} (f : R → List ℕ) (g : X → R) (xs : List X) (i : ℕ) (x : X) → i < length xs → x ≡ get_or xs i x →
    names_by f g (take (i + 1) xs) ≡ names_by f g (take i xs) ++ (f (g x) ∷ [])
names_more f g xs i x lt is =
    ap (names_by f g) (take_more xs i x lt) ∙ ap (λ y. names_by f g (take i xs ++ (y ∷ []))) (sym is)
    ∙ ap (map f) (map-append g (take i xs) (x ∷ [])) ∙ map-append f (map g (take i xs)) (g x ∷ [])

-- one entry more hasn't the name
pub none_more : {X R : Type 0} (f : R → List ℕ) (g : X → R) (xs : List X) (name : List ℕ) (i : ℕ) (x : X) → i < length xs → x ≡ get_or xs i x → IsNoneOf (names_by f g (take i xs)) name → f (g x) ≢ name →
    IsNoneOf (names_by f g (take (i + 1) xs)) name
none_more f g xs name i x lt is none other = subst (λ names. IsNoneOf names name) (sym (names_more f g xs i x lt is)) (all_push (λ n. n ≢ name) (names_by f g (take i xs)) (f (g x)) none other)

-- an entry has the name
pub some_has : {X R : Type 0} (f : R → List ℕ) (g : X → R) (xs : List X) (name : List ℕ) (i : ℕ) (x : X) → i < length xs → x ≡ get_or xs i x → f (g x) ≡ name → IsNoneOf (names_by f g xs) name → ⊥
some_has f g [] name i x lt is same none = absurd (omega arith)
some_has f g (y ∷ xs) name zero x lt is same none = none.0 (ap (λ z. f (g z)) (sym is) ∙ same)
some_has f g (y ∷ xs) name (suc i) x lt is same none = some_has f g xs name i x (omega arith) is same none.1

-- none of two lists
pub none_of_front : (names others : List (List ℕ)) (name : List ℕ) → IsNoneOf (names ++ others) name → IsNoneOf names name
none_of_front [] others name h = tt
none_of_front (n ∷ names) others name h = (h.0, none_of_front names others name h.1)

pub none_of_back : (names others : List (List ℕ)) (name : List ℕ) → IsNoneOf (names ++ others) name → IsNoneOf others name
none_of_back [] others name h = h
none_of_back (n ∷ names) others name h = none_of_back names others name h.1

pub none_of_both : (names others : List (List ℕ)) (name : List ℕ) → IsNoneOf names name → IsNoneOf others name → IsNoneOf (names ++ others) name
none_of_both names others name h k = all_append (λ n. n ≢ name) names others h k

-- the whole list was looked through
pub all_looked_through : {X R : Type 0} (f : R → List ℕ) (g : X → R) (xs : List X) (name : List ℕ) (i : ℕ) → length xs ≤ i → IsNoneOf (names_by f g (take i xs)) name → IsNoneOf (names_by f g xs) name
all_looked_through f g xs name i le h = subst (λ l. IsNoneOf (names_by f g l) name) (take_all i xs le) h

-- the names of checked turns, and of checked salvos
abbrev pub turn_names : List Checked → List (List ℕ)
turn_names turns = map (λ (turn : RawTurn). turn.name) (raws turns)

abbrev pub salvo_names : List Struck → List (List ℕ)
salvo_names salvos = map (λ (salvo : RawSalvo). salvo.name) (raw_salvos salvos)
