-- The order of lists: it passes on, and is kept by numbers behind them.
use Rattle.std.proofs.Common.{◌≡◌, ℕ, ◌⊎◌, ◌<◌, ◌≤◌, List, [], ◌∷◌, ◌++◌, length, inl, inr, refl, sym, subst, ◌∙◌, arith}
use Rattle.std.proofs.lemmas.List.{length-append, append-nil}
use Rattle.breadth_search.specs.ListOrder.{IsNoLater, IsAtMost, IsEarlier, IsBefore}

-- ---- lists of one length

no_later_itself : (js : List ℕ) → IsNoLater js js
no_later_itself [] = tt
no_later_itself (j ∷ js) = inr (refl, no_later_itself js)

no_later_from_earlier : (js ks : List ℕ) → IsEarlier js ks → IsNoLater js ks
no_later_from_earlier [] ks h = absurd h
no_later_from_earlier (j ∷ js) [] h = absurd h
no_later_from_earlier (j ∷ js) (k ∷ ks) (inl lt) = inl lt
no_later_from_earlier (j ∷ js) (k ∷ ks) (inr h) = inr (h.0, no_later_from_earlier js ks h.1)

no_later_on : (js ks ls : List ℕ) → IsNoLater js ks → IsNoLater ks ls → IsNoLater js ls
no_later_on [] ks ls h g = tt
no_later_on (j ∷ js) [] ls h g = absurd h
no_later_on (j ∷ js) (k ∷ ks) [] h g = absurd g
no_later_on (j ∷ js) (k ∷ ks) (l ∷ ls) (inl h) (inl g) = inl (omega arith)
no_later_on (j ∷ js) (k ∷ ks) (l ∷ ls) (inl h) (inr g) = let e = g.0 in inl (omega arith)
no_later_on (j ∷ js) (k ∷ ks) (l ∷ ls) (inr h) (inl g) = let e = h.0 in inl (omega arith)
no_later_on (j ∷ js) (k ∷ ks) (l ∷ ls) (inr h) (inr g) = inr (h.0 ∙ g.0, no_later_on js ks ls h.1 g.1)

earlier_on : (js ks ls : List ℕ) → IsEarlier js ks → IsEarlier ks ls → IsEarlier js ls
earlier_on [] ks ls h g = absurd h
earlier_on (j ∷ js) [] ls h g = absurd h
earlier_on (j ∷ js) (k ∷ ks) [] h g = absurd g
earlier_on (j ∷ js) (k ∷ ks) (l ∷ ls) (inl h) (inl g) = inl (omega arith)
earlier_on (j ∷ js) (k ∷ ks) (l ∷ ls) (inl h) (inr g) = let e = g.0 in inl (omega arith)
earlier_on (j ∷ js) (k ∷ ks) (l ∷ ls) (inr h) (inl g) = let e = h.0 in inl (omega arith)
earlier_on (j ∷ js) (k ∷ ks) (l ∷ ls) (inr h) (inr g) = inr (h.0 ∙ g.0, earlier_on js ks ls h.1 g.1)

earlier_by : (js ks ls : List ℕ) → IsEarlier js ks → IsNoLater ks ls → IsEarlier js ls
earlier_by [] ks ls h g = absurd h
earlier_by (j ∷ js) [] ls h g = absurd h
earlier_by (j ∷ js) (k ∷ ks) [] h g = absurd g
earlier_by (j ∷ js) (k ∷ ks) (l ∷ ls) (inl h) (inl g) = inl (omega arith)
earlier_by (j ∷ js) (k ∷ ks) (l ∷ ls) (inl h) (inr g) = let e = g.0 in inl (omega arith)
earlier_by (j ∷ js) (k ∷ ks) (l ∷ ls) (inr h) (inl g) = let e = h.0 in inl (omega arith)
earlier_by (j ∷ js) (k ∷ ks) (l ∷ ls) (inr h) (inr g) = inr (h.0 ∙ g.0, earlier_by js ks ls h.1 g.1)

no_later_with : (js ks more : List ℕ) → length js ≡ length ks → IsNoLater js ks → IsNoLater (js ++ more) (ks ++ more)
no_later_with [] [] more e h = no_later_itself more
no_later_with [] (k ∷ ks) more e h = absurd (omega arith)
no_later_with (j ∷ js) [] more e h = absurd h
no_later_with (j ∷ js) (k ∷ ks) more e (inl lt) = inl lt
no_later_with (j ∷ js) (k ∷ ks) more e (inr h) = inr (h.0, no_later_with js ks more (omega arith) h.1)

earlier_with : (js ks more others : List ℕ) → IsEarlier js ks → IsEarlier (js ++ more) (ks ++ others)
earlier_with [] ks more others h = absurd h
earlier_with (j ∷ js) [] more others h = absurd h
earlier_with (j ∷ js) (k ∷ ks) more others (inl lt) = inl lt
earlier_with (j ∷ js) (k ∷ ks) more others (inr h) = inr (h.0, earlier_with js ks more others h.1)

earlier_last : (js : List ℕ) (j k : ℕ) → j < k → IsEarlier (js ++ j ∷ []) (js ++ k ∷ [])
earlier_last [] j k lt = inl lt
earlier_last (i ∷ js) j k lt = inr (refl, earlier_last js j k lt)

-- ---- lists of any length

pub at_most_itself : (js : List ℕ) → IsAtMost js js
at_most_itself js = inr (refl, no_later_itself js)

pub at_most_from_before : (js ks : List ℕ) → IsBefore js ks → IsAtMost js ks
at_most_from_before js ks (inl lt) = inl lt
at_most_from_before js ks (inr h) = inr (h.0, no_later_from_earlier js ks h.1)

pub at_most_on : (js ks ls : List ℕ) → IsAtMost js ks → IsAtMost ks ls → IsAtMost js ls
at_most_on js ks ls (inl h) (inl g) = inl (omega arith)
at_most_on js ks ls (inl h) (inr g) = let e = g.0 in inl (omega arith)
at_most_on js ks ls (inr h) (inl g) = let e = h.0 in inl (omega arith)
at_most_on js ks ls (inr h) (inr g) = inr (h.0 ∙ g.0, no_later_on js ks ls h.1 g.1)

pub before_on : (js ks ls : List ℕ) → IsBefore js ks → IsBefore ks ls → IsBefore js ls
before_on js ks ls (inl h) (inl g) = inl (omega arith)
before_on js ks ls (inl h) (inr g) = let e = g.0 in inl (omega arith)
before_on js ks ls (inr h) (inl g) = let e = h.0 in inl (omega arith)
before_on js ks ls (inr h) (inr g) = inr (h.0 ∙ g.0, earlier_on js ks ls h.1 g.1)

pub before_by : (js ks ls : List ℕ) → IsBefore js ks → IsAtMost ks ls → IsBefore js ls
before_by js ks ls (inl h) (inl g) = inl (omega arith)
before_by js ks ls (inl h) (inr g) = let e = g.0 in inl (omega arith)
before_by js ks ls (inr h) (inl g) = let e = h.0 in inl (omega arith)
before_by js ks ls (inr h) (inr g) = inr (h.0 ∙ g.0, earlier_by js ks ls h.1 g.1)

-- the same numbers behind both
pub at_most_with : (js ks more : List ℕ) → IsAtMost js ks → IsAtMost (js ++ more) (ks ++ more)
at_most_with js ks more (inl lt) = inl (omega (arith, length-append js more, length-append ks more))
at_most_with js ks more (inr h) = let e = h.0 in inr (omega (arith, length-append js more, length-append ks more), no_later_with js ks more e h.1)

-- numbers behind the second
pub at_most_longer : (js more : List ℕ) → IsAtMost js (js ++ more)
at_most_longer js [] = subst (IsAtMost js) (sym (append-nil js)) (at_most_itself js)
at_most_longer js (k ∷ more) = inl (omega (arith, length-append js (k ∷ more)))

-- any one number behind each
pub before_with : (js ks : List ℕ) (j k : ℕ) → IsBefore js ks → IsBefore (js ++ j ∷ []) (ks ++ k ∷ [])
before_with js ks j k (inl lt) = inl (omega (arith, length-append js (j ∷ []), length-append ks (k ∷ [])))
before_with js ks j k (inr h) = let e = h.0 in inr (omega (arith, length-append js (j ∷ []), length-append ks (k ∷ [])), earlier_with js ks (j ∷ []) (k ∷ []) h.1)

-- a lesser number behind the first
pub before_last : (js : List ℕ) (j k : ℕ) → j < k → IsBefore (js ++ j ∷ []) (js ++ k ∷ [])
before_last js j k lt = inr (omega (arith, length-append js (j ∷ []), length-append js (k ∷ [])), earlier_last js j k lt)

lt_or_is : (j k : ℕ) → j ≤ k → (j < k) ⊎ (j ≡ k)
lt_or_is j k le = grind arith

-- a lesser number behind the first, or the same
pub at_most_last : (js : List ℕ) (j k : ℕ) → j ≤ k → IsAtMost (js ++ j ∷ []) (js ++ k ∷ [])
at_most_last js j k le = by (lt_or_is j k le)
  where
    by : (j < k) ⊎ (j ≡ k) → IsAtMost (js ++ j ∷ []) (js ++ k ∷ [])
    by (inl lt) = at_most_from_before _ _ (before_last js j k lt)
    by (inr is) = subst (λ i. IsAtMost (js ++ j ∷ []) (js ++ i ∷ [])) is (at_most_itself (js ++ j ∷ []))

-- a greater last number of the second
pub before_up : (js ks : List ℕ) (j k : ℕ) → IsBefore js (ks ++ j ∷ []) → j ≤ k → IsBefore js (ks ++ k ∷ [])
before_up js ks j k before le = by (lt_or_is j k le)
  where
    by : (j < k) ⊎ (j ≡ k) → IsBefore js (ks ++ k ∷ [])
    by (inl lt) = before_on js (ks ++ j ∷ []) (ks ++ k ∷ []) before (before_last ks j k lt)
    by (inr is) = subst (λ i. IsBefore js (ks ++ i ∷ [])) is before

-- a list that is longer
pub at_most_from_shorter : (js ks : List ℕ) → length js < length ks → IsAtMost js ks
at_most_from_shorter js ks lt = inl lt

pub length_from_before : (js ks : List ℕ) → IsBefore js ks → length js ≤ length ks
length_from_before js ks (inl lt) = omega arith
length_from_before js ks (inr h) = let e = h.0 in omega arith

-- lists that are each at most the other are one

same_from_no_later : (js ks : List ℕ) → length js ≡ length ks → IsNoLater js ks → IsNoLater ks js → js ≡ ks
same_from_no_later [] [] e h g = refl
same_from_no_later [] (k ∷ ks) e h g = absurd (omega arith)
same_from_no_later (j ∷ js) [] e h g = absurd (omega arith)
same_from_no_later (j ∷ js) (k ∷ ks) e (inl h) (inl g) = absurd (omega arith)
same_from_no_later (j ∷ js) (k ∷ ks) e (inl h) (inr g) = let is = g.0 in absurd (omega arith)
same_from_no_later (j ∷ js) (k ∷ ks) e (inr h) (inl g) = let is = h.0 in absurd (omega arith)
same_from_no_later (j ∷ js) (k ∷ ks) e (inr h) (inr g) = let rest = same_from_no_later js ks (omega arith) h.1 g.1 in λ i. h.0 i ∷ rest i

pub same_from_at_most : (js ks : List ℕ) → IsAtMost js ks → IsAtMost ks js → js ≡ ks
same_from_at_most js ks (inl h) (inl g) = absurd (omega arith)
same_from_at_most js ks (inl h) (inr g) = let e = g.0 in absurd (omega arith)
same_from_at_most js ks (inr h) (inl g) = let e = h.0 in absurd (omega arith)
same_from_at_most js ks (inr h) (inr g) = same_from_no_later js ks h.0 h.1 g.1
