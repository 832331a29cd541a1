-- Lists of numbers that are walked from a state.
-- Next says of a number that it leads from a state to another, and Last that a list may end with it at a state.
use Rattle.std.specs.Prelude.{◌≡◌, ◌⊎◌, ℕ, List, [], ◌∷◌}
use Rattle.breadth_search.specs.ListOrder.{IsAtMost}

-- the numbers lead on from a state to another, each from where the one before it leads
abbrev pub LeadOn : {S : Type 0} → (ℕ → S → S → Type 0) → S → List ℕ → S → Type 0
LeadOn {S} Next from [] to = to ≡ from
LeadOn {S} Next from (k ∷ ks) to = (between : S) × (Next k from between × LeadOn Next between ks to)

-- the numbers lead on, and a last one ends the list
abbrev pub EndsWith : {S : Type 0} → (ℕ → S → S → Type 0) → (ℕ → S → Type 0) → S → List ℕ → Type 0
EndsWith {S} Next Last from [] = ⊥
EndsWith {S} Next Last from (k ∷ ks) = (Last k from × (ks ≡ [])) ⊎ ((between : S) × (Next k from between × EndsWith Next Last between ks))

-- the least list that leads to a state: the shortest, and of these the first number by number
pub record IsLeastTo {S : Type 0} (Next : ℕ → S → S → Type 0) (from to : S) (list : List ℕ) : Type 0 where
  pub leads : LeadOn Next from list to
  pub least : (other : List ℕ) → LeadOn Next from other to → IsAtMost list other

-- the least list that ends: the shortest, and of these the first number by number
pub record IsLeastEnding {S : Type 0} (Next : ℕ → S → S → Type 0) (Last : ℕ → S → Type 0) (from : S) (list : List ℕ) : Type 0 where
  pub ends : EndsWith Next Last from list
  pub least : (other : List ℕ) → EndsWith Next Last from other → IsAtMost list other

-- some list of numbers leads to a state
abbrev pub IsReached : {S : Type 0} → (ℕ → S → S → Type 0) → S → S → Type 0
IsReached Next from to = (list : List ℕ) × LeadOn Next from list to
