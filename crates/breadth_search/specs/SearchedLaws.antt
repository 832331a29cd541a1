-- The states that a search has found are the first in the order of the least lists that lead to them.
use Rattle.std.proofs.Common.{◌≡◌, ◌⊎◌, ℕ, zero, suc, ◌<◌, ◌≤◌, Bool, true, false, List, [], ◌∷◌, ◌++◌, length, get_or, inl, inr, refl, sym, ap, subst, ◌∙◌, arith}
use Rattle.std.specs.List.{Contains, IsDistinct}
use Rattle.std.proofs.lemmas.List.{append_assoc, get_or_default}
use Rattle.std.proofs.lemmas.Bool.{cases_lt, cases_order}
use Rattle.life_plane.specs.ListLaws.{each_at}
use Rattle.breadth_search.specs.declared.found.Label.{Label}
use Rattle.breadth_search.specs.ListOrder.{IsAtMost, IsBefore}
use Rattle.breadth_search.specs.Walks.{LeadOn, IsReached}
use Rattle.breadth_search.specs.First.{AreFirst}
use Rattle.breadth_search.specs.Search.{IsTried, IsFoundBy, IsSearched}
use Rattle.breadth_search.specs.OrderLaws.{at_most_from_before, at_most_on, at_most_with, at_most_longer, before_on, before_by, before_with, before_up}

-- items that are each once stand at one place each
pub one_place : {S : Type 0} (eq : S → S → Bool) → ((a : S) → eq a a ≡ true) → (xs : List S) (d : S) (a b : ℕ) → IsDistinct eq xs → a < length xs → b < length xs → get_or xs a d ≡ get_or xs b d → a ≡ b
unfolding IsDistinct
one_place eq same [] d a b h la lb e = absurd (omega arith)
one_place eq same (x ∷ xs) d zero zero h la lb e = refl
one_place {S} eq same (x ∷ xs) d zero (suc b) h la lb e =
    let differ : eq x (get_or xs b d) ≡ false = each_at (λ (y : S). eq x y ≡ false) xs h.0 b d (omega arith) in
    let alike : eq x (get_or xs b d) ≡ true = subst (λ (y : S). eq x y ≡ true) e (same x) in absurd (cc)
one_place {S} eq same (x ∷ xs) d (suc a) zero h la lb e =
    let differ : eq x (get_or xs a d) ≡ false = each_at (λ (y : S). eq x y ≡ false) xs h.0 a d (omega arith) in
    let alike : eq x (get_or xs a d) ≡ true = subst (λ (y : S). eq x y ≡ true) (sym e) (same x) in absurd (cc)
one_place eq same (x ∷ xs) d (suc a) (suc b) h la lb e = ap suc (one_place eq same xs d a b h.1 (omega arith) (omega arith) e)

module _ {S : Type 0} (Next : ℕ → S → S → Type 0) (from : S) (place bound : ℕ) (states : List S) (labels : List Label) (lists : List (List ℕ)) (was : IsSearched Next from place bound states labels lists) where
  some : 0 < length states
  some = let many = was.as_many in omega arith

  -- a list comes after those to the states
  abbrev IsAfter : List ℕ → Type 0
  IsAfter list = (m : ℕ) → m < length states → IsBefore (get_or lists m []) list

  -- a number that was not tried, and more numbers or none
  after_from : (m k : ℕ) (ks : List ℕ) → m < length states → (place < m) ⊎ ((m ≡ place) × (bound ≤ k)) → IsAfter (get_or lists m [] ++ k ∷ ks)
  after_from m k ks lt where_it_is j small =
      subst (IsBefore (get_or lists j [])) (append_assoc (get_or lists m []) (k ∷ []) ks)
      (before_by _ _ _ (by where_it_is) (at_most_longer (get_or lists m [] ++ k ∷ []) ks))
    where
      by : (place < m) ⊎ ((m ≡ place) × (bound ≤ k)) → IsBefore (get_or lists j []) (get_or lists m [] ++ k ∷ [])
      by (inl later) = before_on _ _ _ (was.below (omega arith) j small) (before_with (get_or lists place []) (get_or lists m []) bound k (was.rising place m later lt))
      by (inr here) =
          let lt_place : place < length states = (let e = here.0 in omega arith) in
          subst (λ n. IsBefore (get_or lists j []) (get_or lists n [] ++ k ∷ [])) (sym here.0) (before_up _ _ _ _ (was.below lt_place j small) here.1)

  cases_tried : (m k : ℕ) → IsTried place bound m k ⊎ ((place < m) ⊎ ((m ≡ place) × (bound ≤ k)))
  cases_tried m k = by (cases_order m place) (cases_lt k bound)
    where
      by : (m ≡ place) ⊎ ((m < place) ⊎ (place < m)) → (k < bound) ⊎ (bound ≤ k) → IsTried place bound m k ⊎ ((place < m) ⊎ ((m ≡ place) × (bound ≤ k)))
      by (inl is) (inl lt) = inl (inr (is, lt))
      by (inl is) (inr le) = inr (inr (is, le))
      by (inr (inl earlier)) h = inl (inl earlier)
      by (inr (inr later)) h = inr (inl later)

  -- a list from one of the states on leads to one of them, to which one no later leads, or comes after them all
  pub found_or_after : (at : S) (ks : List ℕ) (m : ℕ) → m < length states → LeadOn Next (get_or states m from) ks at → IsFoundBy states lists from at (get_or lists m [] ++ ks) ⊎ IsAfter (get_or lists m [] ++ ks)
  found_or_after at [] m lt leads = inl (record { place = m; within = lt; is = sym leads; least = at_most_longer (get_or lists m []) [] })
  found_or_after at (k ∷ ks) m lt leads = by (cases_tried m k) (λ n within later. found_or_after at ks n within later)
    where
      later : (found : IsFoundBy states lists from leads.0 (get_or lists m [] ++ k ∷ [])) → IsAtMost (get_or lists found.place [] ++ ks) (get_or lists m [] ++ k ∷ ks)
      later found = subst (IsAtMost (get_or lists found.place [] ++ ks)) (append_assoc (get_or lists m []) (k ∷ []) ks) (at_most_with (get_or lists found.place []) (get_or lists m [] ++ k ∷ []) ks found.least)

      -- where the number was tried, it leads to a state that was found
      on : (found : IsFoundBy states lists from leads.0 (get_or lists m [] ++ k ∷ [])) →
          IsFoundBy states lists from at (get_or lists found.place [] ++ ks) ⊎ IsAfter (get_or lists found.place [] ++ ks) →
          IsFoundBy states lists from at (get_or lists m [] ++ k ∷ ks) ⊎ IsAfter (get_or lists m [] ++ k ∷ ks)
      on found (inl there) = inl (record { place = there.place; within = there.within; is = there.is; least = at_most_on _ _ _ there.least (later found) })
      on found (inr after) = inr (λ j small. before_by _ _ _ (after j small) (later found))

      by : IsTried place bound m k ⊎ ((place < m) ⊎ ((m ≡ place) × (bound ≤ k))) →
          ((n : ℕ) → n < length states → LeadOn Next (get_or states n from) ks at → IsFoundBy states lists from at (get_or lists n [] ++ ks) ⊎ IsAfter (get_or lists n [] ++ ks)) →
          IsFoundBy states lists from at (get_or lists m [] ++ k ∷ ks) ⊎ IsAfter (get_or lists m [] ++ k ∷ ks)
      by (inl tried) rest =
          let found = was.closed m k leads.0 lt tried leads.1.0 in
          on found (rest found.place found.within (subst (λ a. LeadOn Next a ks at) (sym found.is) leads.1.1))
      by (inr not_yet) rest = inr (after_from m k ks lt not_yet)

  -- and so does each list from the first of them
  from_first : (at : S) (list : List ℕ) → LeadOn Next from list at → IsFoundBy states lists from at list ⊎ IsAfter list
  from_first at list leads =
      let P : List ℕ → Type 0 = λ js. IsFoundBy states lists from at (js ++ list) ⊎ IsAfter (js ++ list) in
      subst P was.labelled.first (found_or_after at list 0 some (subst (λ a. LeadOn Next a list at) (sym was.first) leads))

  contains : (at : S) (list : List ℕ) → IsFoundBy states lists from at list → Contains states at
  contains at list f = (f.place, f.within, get_or_default states f.place at from f.within ∙ f.is)

  pub are_first : (eq : S → S → Bool) → ((a : S) → eq a a ≡ true) → IsDistinct eq states → AreFirst Next from states lists
  are_first eq same distinct = record {
    least = λ m lt. record { leads = was.leads m lt; least = λ other leads. least m lt other (from_first (get_or states m from) other leads) };
    rising = was.rising;
    others = λ at other leads. outside at other (from_first at other leads);
  }
    where
      least : (m : ℕ) → m < length states → (other : List ℕ) → IsFoundBy states lists from (get_or states m from) other ⊎ IsAfter other → IsAtMost (get_or lists m []) other
      least m lt other (inl f) = subst (λ n. IsAtMost (get_or lists n []) other) (one_place eq same states from f.place m distinct f.within lt f.is) f.least
      least m lt other (inr after) = at_most_from_before _ _ (after m lt)

      outside : (at : S) (other : List ℕ) → IsFoundBy states lists from at other ⊎ IsAfter other → Contains states at ⊎ IsAfter other
      outside at other (inl f) = inl (contains at other f)
      outside at other (inr after) = inr after

  -- where each place was tried, each state that is reached is found
  pub whole : length states ≤ place → (to : S) → IsReached Next from to → Contains states to
  whole over to reached = along reached.0 0 some (subst (λ a. LeadOn Next a reached.0 to) (sym was.first) reached.1)
    where
      along : (ks : List ℕ) (m : ℕ) → m < length states → LeadOn Next (get_or states m from) ks to → Contains states to
      along [] m lt leads = (m, lt, get_or_default states m to from lt ∙ sym leads)
      along (k ∷ ks) m lt leads =
          let found = was.closed m k leads.0 lt (inl (omega arith)) leads.1.0 in
          along ks found.place found.within (subst (λ a. LeadOn Next a ks to) (sym found.is) leads.1.1)
