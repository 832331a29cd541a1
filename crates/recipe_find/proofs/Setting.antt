-- A set of candidates gains one after the other.
use Rattle.std.proofs.Common.{◌≡◌, ℕ, ◌+◌, ◌<◌, Bool, true, false, ◌||◌, List, [], ◌∷◌, ◌++◌, length, map, take, get_or, if◌then◌else◌, refl, sym, ap, subst, ◌∙◌, append_assoc, true≢false, Contains}
use Rattle.std.proofs.lemmas.List.{take_more, map-append}
use Rattle.std.proofs.lemmas.List.Folds.{list_any-append}
use Rattle.std.specs.List.{list_any}
use Rattle.indexmap.specs.IndexSet.{insert_key}
use Rattle.indexmap.proofs.CallerLemmas.{Contains-list_any}
use Rattle.find_order.specs.Same.{same_candidate}
use Rattle.std.proofs.lemmas.Map.Views.{list_any-from_Contains}
use Rattle.find_order.specs.SameLaws.{same_candidate_is, same_candidate_equiv}
use Rattle.find_order.specs.declared.candidate.Candidate.{Candidate}
use Rattle.recipe_find.specs.Known.{has, HasJust}

or_false : (b : Bool) → (b || false) ≡ b
or_false true = refl
or_false false = refl

or_true : (a b : Bool) → (b ≡ true → a ≡ true) → a ≡ (a || b)
or_true true b h = refl
or_true false true h = h refl
or_true false false h = refl

-- the candidates of two lists
pub has_both : (xs ys : List Candidate) (c : Candidate) → has (xs ++ ys) c ≡ (has xs c || has ys c)
has_both xs ys c = list_any-append (same_candidate c) xs ys

has_one : (xs : List Candidate) (k c : Candidate) → has (xs ++ (k ∷ [])) c ≡ (has xs c || same_candidate c k)
has_one xs k c = has_both xs (k ∷ []) c ∙ ap (λ b. has xs c || b) (or_false (same_candidate c k))

-- the keys of a set, after one was inserted
inserted : (keys : List Candidate) (k c : Candidate) → has (insert_key same_candidate keys k) c ≡ (has keys c || same_candidate c k)
inserted keys k c = by (list_any (same_candidate k) keys) refl
  where
    by : (b : Bool) → list_any (same_candidate k) keys ≡ b → has (if b then keys else keys ++ (k ∷ [])) c ≡ (has keys c || same_candidate c k)
    by true e = or_true (has keys c) (same_candidate c k) (λ same. ap (has keys) (same_candidate_is c k same) ∙ e)
    by false e = has_one keys k c

-- one candidate more
pub gains : (keys after list : List Candidate) (k : Candidate) → HasJust keys list → after ≡ insert_key same_candidate keys k → HasJust after (list ++ (k ∷ []))
gains keys after list k h is c = ap (λ l. has l c) is ∙ inserted keys k c ∙ ap (λ b. b || same_candidate c k) (h c) ∙ sym (has_one list k c)

-- those of one item more of a list
pub mapped_more : {X R : Type 0} (f : R → Candidate) (g : X → R) (before : List Candidate) (xs : List X) (i : ℕ) (x : X) → i < length xs → x ≡ get_or xs i x →
    before ++ map f (map g (take (i + 1) xs)) ≡ (before ++ map f (map g (take i xs))) ++ (f (g x) ∷ [])
mapped_more f g before xs i x lt is =
    ap (λ l. before ++ map f (map g l)) (take_more xs i x lt)
    ∙ ap (λ y. before ++ map f (map g (take i xs ++ (y ∷ [])))) (sym is)
    ∙ ap (λ l. before ++ map f l) (map-append g (take i xs) (x ∷ []))
    ∙ ap (λ l. before ++ l) (map-append f (map g (take i xs)) (g x ∷ []))
    ∙ sym (append_assoc before (map f (map g (take i xs))) (f (g x) ∷ []))

pub gains_mapped : {X R : Type 0} (f : R → Candidate) (g : X → R) (before keys after : List Candidate) (xs : List X) (i : ℕ) (x : X) (k : Candidate) → i < length xs → x ≡ get_or xs i x → k ≡ f (g x) →
    HasJust keys (before ++ map f (map g (take i xs))) → after ≡ insert_key same_candidate keys k → HasJust after (before ++ map f (map g (take (i + 1) xs)))
gains_mapped f g before keys after xs i x k lt is made h pushed =
    subst (HasJust after) (sym (mapped_more f g before xs i x lt is))
    (subst (λ c. HasJust after ((before ++ map f (map g (take i xs))) ++ (c ∷ []))) made (gains keys after (before ++ map f (map g (take i xs))) k h pushed))

-- ---- what a look-up tells

pub has_none : (list : List Candidate) (c : Candidate) → has list c ≡ false → Contains list c → ⊥
has_none list c none there = true≢false (sym (list_any-from_Contains same_candidate_equiv c list there) ∙ none)

pub has_some : (list : List Candidate) (c : Candidate) → has list c ≡ true → Contains list c
has_some list c h = Contains-list_any same_candidate same_candidate_is list c h
