-- States in the order of the least lists that lead to them.
use Rattle.std.specs.Prelude.{◌≡◌, ◌⊎◌, ℕ, ◌<◌, ◌≤◌, Bool, List, [], ◌++◌, length, get_or}
use Rattle.std.specs.List.{Contains, IsDistinct}
use Rattle.breadth_search.specs.ListOrder.{IsBefore}
use Rattle.breadth_search.specs.Walks.{LeadOn, IsLeastTo, IsReached}
use Rattle.breadth_search.specs.Labelled.{Labelled}

-- the states are the first ones in the order of the least lists that lead to them, which are these lists
pub record AreFirst {S : Type 0} (Next : ℕ → S → S → Type 0) (from : S) (states : List S) (lists : List (List ℕ)) : Type 0 where
  pub least : (m : ℕ) → m < length states → IsLeastTo Next from (get_or states m from) (get_or lists m [])
  pub rising : (a b : ℕ) → a < b → b < length states → IsBefore (get_or lists a []) (get_or lists b [])
  -- a list that leads to any other state comes after all of them
  pub others : (at : S) (other : List ℕ) → LeadOn Next from other at → Contains states at ⊎ ((m : ℕ) → m < length states → IsBefore (get_or lists m []) other)

-- what holds of each labelling: its states are the first, each once; and they are all that are reached where each of them was tried
pub record IsLabelling {G S : Type 0} (Next : G → ℕ → S → S → Type 0) (eq : S → S → Bool) (labelled : Labelled G S) : Type 0 where
  pub first : AreFirst (Next labelled.graph) labelled.from labelled.states labelled.lists
  pub some : 0 < length labelled.states
  pub distinct : IsDistinct eq labelled.states
  pub whole : length labelled.states ≤ labelled.tried → (to : S) → IsReached (Next labelled.graph) labelled.from to → Contains labelled.states to

-- more items, or none, behind those that were there
abbrev pub IsGrown : {S : Type 0} → List S → List S → Type 0
IsGrown {S} states states_after = (more : List S) × (states_after ≡ states ++ more)
