-- The numbers that are tried at one place of a search.
use Rattle.std.proofs.Common.{◌≡◌, ◌⊎◌, ℕ, suc, ◌+◌, ◌-◌, ◌<◌, ◌≤◌, List, [], ◌∷◌, ◌++◌, length, get_or, Bool, true, false, MatchBool, Option, Some, None, inl, inr, sym, ap, subst, ◌∙◌, arith}
use Rattle.std.specs.List.{slice_get, Contains}
use Rattle.std.proofs.lemmas.List.{get_or_append_left, get_or_default}
use Rattle.std.proofs.lemmas.Option.{slice_get_within, get_or_from_slice_get}
use Rattle.life_plane.specs.NumberLaws.{lt_or_same}
use Rattle.breadth_search.specs.declared.found.Label.{Label}
use Rattle.breadth_search.specs.declared.graph.Lead.{Lead}
use Rattle.breadth_search.specs.Labels.{label, lists_of, IsAdded, IsSame}
use Rattle.breadth_search.specs.Search.{first_of, bound_past, IsLast, IsSearched, IsSearching, IsKept}
use Rattle.breadth_search.specs.Leads.{IsLead}
use Rattle.breadth_search.specs.SearchLaws.{lists_more, breadth_begins, breadth_stays, breadth_grows, breadth_turns}

pub when_true : (P Q : Type 0) (b : Bool) → b ≡ true → MatchBool b P Q → P
when_true P Q b is h = let R : Bool → Type 0 = λ c. MatchBool c P Q in subst R is h

pub when_false : (P Q : Type 0) (b : Bool) → b ≡ false → MatchBool b P Q → Q
when_false P Q b is h = let R : Bool → Type 0 = λ c. MatchBool c P Q in subst R is h

-- a place less is left
pub fewer_left : {X : Type 0} (xs ys : List X) (k : ℕ) (x : X) → slice_get xs k ≡ Some x → xs ≡ ys → length ys - (k + 1) < length ys - k
fewer_left xs ys k x here same = let lt = slice_get_within ys k x (ap (λ zs. slice_get zs k) (sym same) ∙ here) in omega arith

-- what did not change twice
pub same_on : {S : Type 0} (states states_now states_after : List S) (labels labels_now labels_after : List Label) → IsSame states labels states_now labels_now → IsSame states_now labels_now states_after labels_after →
    IsSame states labels states_after labels_after
same_on states states_now states_after labels labels_now labels_after h k = record { states_are = k.states_are ∙ h.states_are; labels_are = k.labels_are ∙ h.labels_are }

pub still_here : {S : Type 0} (states states_after : List S) (labels labels_after : List Label) (place : ℕ) (at : S) → IsSame states labels states_after labels_after → slice_get states place ≡ Some at → slice_get states_after place ≡ Some at
still_here states states_after labels labels_after place at same here = ap (λ xs. slice_get xs place) same.states_are ∙ here

module _ {S : Type 0} (Next : ℕ → S → S → Type 0) where
  pub searching_begins : (from : S) (states : List S) (labels : List Label) → states ≡ from ∷ [] → labels ≡ [] → IsSearching Next from 0 None states labels
  searching_begins from states labels are none =
      subst (λ xs. IsSearching Next from 0 None xs labels) (sym are) (subst (λ ls. IsSearching Next from 0 None (from ∷ []) ls) (sym none)
      (record { searched = breadth_begins Next from; last = tt }))

  -- the first state is the one at which the search began
  pub first_is : (from other : S) (place : ℕ) (number : Option ℕ) (states : List S) (labels : List Label) → IsSearching Next from place number states labels → first_of states other ≡ from
  first_is from other place number states labels was =
      let many = was.searched.as_many in
      get_or_default states 0 other from (omega arith) ∙ was.searched.first

  pub same_searching : (from : S) (place : ℕ) (number : Option ℕ) (states states_after : List S) (labels labels_after : List Label) → IsSame states labels states_after labels_after →
      IsSearching Next from place number states labels → IsSearching Next from place number states_after labels_after
  same_searching from place number states states_after labels labels_after same was =
      subst (λ xs. IsSearching Next from place number xs labels_after) (sym same.states_are) (subst (λ ls. IsSearching Next from place number states ls) (sym same.labels_are) was)

  module _ (from at : S) (place : ℕ) (number : Option ℕ) (states : List S) (labels : List Label) (was : IsSearching Next from place number states labels) (here : slice_get states place ≡ Some at) where
    small : place < length states
    small = slice_get_within states place at here

    here_is : get_or states place from ≡ at
    here_is = get_or_from_slice_get states place at from here

    pub last_here : IsLast Next at number
    last_here = subst (λ a. IsLast Next a number) here_is was.last

    module _ (lead : Lead S) (first : IsLead Next at (bound_past number) lead) where
      leads_here : Next lead.number (get_or states place from) lead.to
      leads_here = subst (λ a. Next lead.number a lead.to) (sym here_is) first.leads

      -- it leads to a state that had no label
      pub lead_adds : (states_after : List S) (labels_after : List Label) → IsAdded lead.to (label place lead.number) states labels states_after labels_after →
          IsSearching Next from place (Some lead.number) states_after labels_after
      lead_adds states_after labels_after added =
          subst (λ xs. IsSearching Next from place (Some lead.number) xs labels_after) (sym added.states_are)
          (subst (λ ls. IsSearching Next from place (Some lead.number) (states ++ lead.to ∷ []) ls) (sym added.labels_are)
          (record {
            searched = subst (λ js. IsSearched Next from place (suc lead.number) (states ++ lead.to ∷ []) (labels ++ label place lead.number ∷ []) js) (lists_more labels (label place lead.number))
                (breadth_grows Next from place (bound_past number) lead.number states labels (lists_of labels) lead.to was.searched small first.up leads_here
                (λ to leads. first.only to (subst (λ a. Next lead.number a to) here_is leads))
                (λ k to low high leads. first.least k to low high (subst (λ a. Next k a to) here_is leads)));
            last = (lead.to, subst (λ a. Next lead.number a lead.to) (sym (get_or_append_left states (lead.to ∷ []) from place small)) leads_here);
          }))

      -- it leads to a state that had one
      pub lead_stays : (states_after : List S) (labels_after : List Label) → IsSame states labels states_after labels_after → Contains states lead.to → IsSearching Next from place (Some lead.number) states_after labels_after
      lead_stays states_after labels_after same known =
          same_searching from place (Some lead.number) states states_after labels labels_after same
          (record {
            searched = breadth_stays Next from place (bound_past number) (suc lead.number) states labels (lists_of labels) was.searched small (let up = first.up in omega arith)
                (λ k to low high leads. by k to (lt_or_same k lead.number (omega arith)) low leads);
            last = (lead.to, leads_here);
          })
        where
          by : (k : ℕ) (to : S) → (k < lead.number) ⊎ (k ≡ lead.number) → bound_past number ≤ k → Next k (get_or states place from) to → Contains states to
          by k to (inl less) low leads = absurd (first.least k to low less (subst (λ a. Next k a to) here_is leads))
          by k to (inr is) low leads = subst (Contains states) (sym (first.only to (subst (λ j. Next j at to) is (subst (λ a. Next k a to) here_is leads)))) known

    -- no number is left: it is the next state's turn
    pub place_turns : ((k : ℕ) (to : S) → bound_past number ≤ k → Next k at to → ⊥) → IsSearching Next from (place + 1) None states labels
    place_turns over = record {
      searched = breadth_turns Next from place (bound_past number) states labels (lists_of labels) (λ k to low leads. over k to low (subst (λ a. Next k a to) here_is leads)) was.searched small;
      last = tt;
    }

-- what is kept at one place is kept of the whole
pub kept_from : {S : Type 0} (Next : ℕ → S → S → Type 0) (eq : S → S → Bool) (from at : S) (place place_after : ℕ) (number last : Option ℕ) (states states_after : List S) (labels labels_after : List Label) →
    IsKept Next eq from place number states labels → IsKept Next eq (first_of states at) place_after last states_after labels_after → IsKept Next eq from place_after last states_after labels_after
kept_from Next eq from at place place_after number last states states_after labels labels_after was now =
    subst (λ f. IsKept Next eq f place_after last states_after labels_after) (first_is Next from at place number states labels was.searching) now

-- it is the next state's turn
pub kept_turns : {S : Type 0} (Next : ℕ → S → S → Type 0) (eq : S → S → Bool) (from at : S) (place : ℕ) (last : Option ℕ) (states : List S) (labels : List Label) →
    IsKept Next eq from place last states labels → slice_get states place ≡ Some at → ((k : ℕ) (to : S) → bound_past last ≤ k → Next k at to → ⊥) → IsKept Next eq from (place + 1) None states labels
kept_turns Next eq from at place last states labels was here over = record { searching = place_turns Next from at place last states labels was.searching here over; distinct = was.distinct }
