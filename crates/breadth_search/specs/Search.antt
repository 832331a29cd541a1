-- A search by breadth: the states found so far, in the order of the least lists that lead to them.
use Rattle.std.specs.Prelude.{◌≡◌, ◌⊎◌, ℕ, suc, ◌+◌, ◌<◌, ◌≤◌, Bool, List, [], ◌∷◌, ◌++◌, length, get_or}
use Rattle.std.specs.List.{IsDistinct}
use Rattle.std.specs.declared.option.Option.{Option}
use Rattle.std.specs.declared.option.Option.TheVariants.{Some, None}
use Rattle.breadth_search.specs.declared.found.Label.{Label}
use Rattle.breadth_search.specs.ListOrder.{IsAtMost, IsBefore}
use Rattle.breadth_search.specs.Walks.{LeadOn}
use Rattle.breadth_search.specs.Leads.{LeadsOn}
use Rattle.breadth_search.specs.Labels.{AreLabelled, ArePrior, lists_of}

-- the first of some states, or another where there are none
abbrev pub first_of : {S : Type 0} → List S → S → S
first_of states other = get_or states 0 other

-- at the states before a place each number was tried, and at the state there the numbers below a bound
abbrev pub IsTried : ℕ → ℕ → ℕ → ℕ → Type 0
IsTried place bound m k = (m < place) ⊎ ((m ≡ place) × (k < bound))

-- a state is found, and the list to it is at most another
pub record IsFoundBy {S : Type 0} (states : List S) (lists : List (List ℕ)) (from to : S) (list : List ℕ) : Type 0 where
  pub place : ℕ
  pub within : place < length states
  pub is : get_or states place from ≡ to
  pub least : IsAtMost (get_or lists place []) list

-- What is known of the states that were found from one of them, the first, when the numbers below a bound were tried at a place: there are
-- lists that lead to them, in order; and where a number that was tried leads on, the state there is found, by a list that is at most this one.
pub record IsSearched {S : Type 0} (Next : ℕ → S → S → Type 0) (from : S) (place bound : ℕ) (states : List S) (labels : List Label) (lists : List (List ℕ)) : Type 0 where
  pub labelled : AreLabelled labels lists
  pub prior : ArePrior labels
  pub as_many : length states ≡ length labels + 1
  pub first : get_or states 0 from ≡ from
  pub leads : (m : ℕ) → m < length states → LeadOn Next from (get_or lists m []) (get_or states m from)
  pub rising : (a b : ℕ) → a < b → b < length states → IsBefore (get_or lists a []) (get_or lists b [])
  pub below : place < length states → (m : ℕ) → m < length states → IsBefore (get_or lists m []) (get_or lists place [] ++ bound ∷ [])
  pub closed : (m k : ℕ) (to : S) → m < length states → IsTried place bound m k → Next k (get_or states m from) to → IsFoundBy states lists from to (get_or lists m [] ++ k ∷ [])
  pub within : place ≤ length states

-- past the number that led on last
abbrev pub bound_past : Option ℕ → ℕ
bound_past None = 0
bound_past (Some number) = suc number

-- the number that led on last leads on from the state whose turn it is
abbrev pub IsLast : {S : Type 0} → (ℕ → S → S → Type 0) → S → Option ℕ → Type 0
IsLast Next at None = Unit {0}
IsLast Next at (Some number) = LeadsOn Next at number

-- the search goes on at a place, past the number that led on last
pub record IsSearching {S : Type 0} (Next : ℕ → S → S → Type 0) (from : S) (place : ℕ) (number : Option ℕ) (states : List S) (labels : List Label) : Type 0 where
  pub searched : IsSearched Next from place (bound_past number) states labels (lists_of labels)
  pub last : IsLast Next (get_or states place from) number

-- and the states are each once
pub record IsKept {S : Type 0} (Next : ℕ → S → S → Type 0) (eq : S → S → Bool) (from : S) (place : ℕ) (number : Option ℕ) (states : List S) (labels : List Label) : Type 0 where
  pub searching : IsSearching Next from place number states labels
  pub distinct : IsDistinct eq states
