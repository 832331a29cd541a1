-- The least list that ends, from the states in the order of the least lists that lead to them.
use Rattle.std.proofs.Common.{◌≡◌, ◌⊎◌, ℕ, ◌<◌, ◌≤◌, List, [], ◌∷◌, ◌++◌, length, get_or, inl, inr, refl, sym, subst, ◌∙◌}
use Rattle.std.specs.List.{Contains}
use Rattle.std.proofs.lemmas.List.{get_or_default}
use Rattle.std.proofs.lemmas.Bool.{cases_order}
use Rattle.breadth_search.specs.ListOrder.{IsAtMost, IsBefore}
use Rattle.breadth_search.specs.Walks.{LeadOn, EndsWith, IsLeastEnding, IsReached}
use Rattle.breadth_search.specs.First.{AreFirst}
use Rattle.breadth_search.specs.OrderLaws.{at_most_on, at_most_with, at_most_last, at_most_from_before, before_with}

-- the numbers before the last of a list that ends, and that last one
record HasEnd {S : Type 0} (Next : ℕ → S → S → Type 0) (Last : ℕ → S → Type 0) (from : S) (list : List ℕ) : Type 0 where
  front : List ℕ
  number : ℕ
  at : S
  leads : LeadOn Next from front at
  last : Last number at
  is : list ≡ front ++ number ∷ []

has_end : {S : Type 0} (Next : ℕ → S → S → Type 0) (Last : ℕ → S → Type 0) (from : S) (list : List ℕ) → EndsWith Next Last from list → HasEnd Next Last from list
has_end Next Last from [] ends = absurd ends
has_end Next Last from (k ∷ ks) (inl here) = record { front = []; number = k; at = from; leads = refl; last = here.0; is = λ i. k ∷ here.1 i }
has_end Next Last from (k ∷ ks) (inr on) =
    let rest = has_end Next Last on.0 ks on.1.1 in
    record { front = k ∷ rest.front; number = rest.number; at = rest.at; leads = (on.0, (on.1.0, rest.leads)); last = rest.last; is = λ i. k ∷ rest.is i }

ends_after : {S : Type 0} (Next : ℕ → S → S → Type 0) (Last : ℕ → S → Type 0) (a : S) (ks : List ℕ) (b : S) (k : ℕ) → LeadOn Next a ks b → Last k b → EndsWith Next Last a (ks ++ k ∷ [])
ends_after Next Last a [] b k leads last = inl (subst (Last k) leads last, refl)
ends_after Next Last a (j ∷ ks) b k leads last = inr (leads.0, (leads.1.0, ends_after Next Last leads.0 ks b k leads.1.1 last))

module _ {S : Type 0} (Next : ℕ → S → S → Type 0) (Last : ℕ → S → Type 0) (from : S) (states : List S) (lists : List (List ℕ)) (are : AreFirst Next from states lists) where
  -- the list to the first of the states at which a list may end, and the least number that ends it there
  pub least_ending : (place number : ℕ) → place < length states → ((m k : ℕ) → m < place → Last k (get_or states m from) → ⊥) → Last number (get_or states place from) →
      ((k : ℕ) → Last k (get_or states place from) → number ≤ k) → IsLeastEnding Next Last from (get_or lists place [] ++ number ∷ [])
  least_ending place number small none last first = record {
    ends = ends_after Next Last from (get_or lists place []) (get_or states place from) number (are.least place small).leads last;
    least = λ other ends. least other (has_end Next Last from other ends);
  }
    where
      path : List ℕ
      path = get_or lists place [] ++ number ∷ []

      -- a list to the state at a place and one more number
      at_place : (m k : ℕ) (ks : List ℕ) → m < length states → LeadOn Next from ks (get_or states m from) → Last k (get_or states m from) → (m ≡ place) ⊎ ((m < place) ⊎ (place < m)) → IsAtMost path (ks ++ k ∷ [])
      at_place m k ks lt leads ends (inl is) =
          let here : LeadOn Next from ks (get_or states place from) = subst (λ n. LeadOn Next from ks (get_or states n from)) is leads in
          at_most_on _ _ _ (at_most_last (get_or lists place []) number k (first k (subst (λ n. Last k (get_or states n from)) is ends)))
          (at_most_with (get_or lists place []) ks (k ∷ []) ((are.least place small).least ks here))
      at_place m k ks lt leads ends (inr (inl earlier)) = absurd (none m k earlier ends)
      at_place m k ks lt leads ends (inr (inr later)) =
          at_most_on _ _ _ (at_most_from_before _ _ (before_with (get_or lists place []) (get_or lists m []) number k (are.rising place m later lt)))
          (at_most_with (get_or lists m []) ks (k ∷ []) ((are.least m lt).least ks leads))

      known : (at : S) (ks : List ℕ) (k : ℕ) → LeadOn Next from ks at → Last k at → Contains states at ⊎ ((m : ℕ) → m < length states → IsBefore (get_or lists m []) ks) → IsAtMost path (ks ++ k ∷ [])
      known at ks k leads ends (inl there) =
          let is : at ≡ get_or states there.0 from = sym (get_or_default states there.0 from at there.1 ∙ there.2) in
          at_place there.0 k ks there.1 (subst (LeadOn Next from ks) is leads) (subst (Last k) is ends) (cases_order there.0 place)
      known at ks k leads ends (inr after) = at_most_from_before _ _ (before_with (get_or lists place []) ks number k (after place small))

      least : (other : List ℕ) → HasEnd Next Last from other → IsAtMost path other
      least other end = subst (IsAtMost path) (sym end.is) (known end.at end.front end.number end.leads end.last (are.others end.at end.front end.leads))

  -- where no list ends at any of the states, and these are all that are reached, none does
  pub no_ending : ((to : S) → IsReached Next from to → Contains states to) → ((m k : ℕ) → m < length states → Last k (get_or states m from) → ⊥) → (other : List ℕ) → EndsWith Next Last from other → ⊥
  no_ending all none other ends = by (has_end Next Last from other ends)
    where
      by : HasEnd Next Last from other → ⊥
      by end =
          let there = all end.at (end.front, end.leads) in
          none there.0 end.number there.1 (subst (Last end.number) (sym (get_or_default states there.0 from end.at there.1 ∙ there.2)) end.last)
