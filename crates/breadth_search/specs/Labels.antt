-- The way to each of the states that were found: the state before it, and the number that leads on from there.
use Rattle.std.specs.Prelude.{◌≡◌, ℕ, ◌+◌, ◌<◌, ◌≤◌, List, [], ◌∷◌, ◌++◌, length, get_or, fold}
use Rattle.breadth_search.specs.declared.found.Label.{Label}

abbrev pub label : ℕ → ℕ → Label
label before number = record { before = before; number = number }

abbrev pub label_at : List Label → ℕ → Label
label_at labels k = get_or labels k (label 0 0)

-- the list to one more state: that to the state before it, and then its label's number
abbrev pub list_by : List (List ℕ) → Label → List ℕ
list_by lists mark = get_or lists mark.before [] ++ mark.number ∷ []

abbrev pub with_list : List (List ℕ) → Label → List (List ℕ)
with_list lists mark = lists ++ list_by lists mark ∷ []

-- the lists to the states: to the first the empty one, and to the others by their labels in turn
abbrev pub lists_of : List Label → List (List ℕ)
lists_of labels = fold with_list ([] ∷ []) labels

-- each label names a state that was found before: the first state has no label
abbrev pub ArePrior : List Label → Type 0
ArePrior labels = (k : ℕ) → k < length labels → (label_at labels k).before ≤ k

-- the list to the first state has no number, and that to each other is the list to the one before it, and then its label's number
pub record AreLabelled (labels : List Label) (lists : List (List ℕ)) : Type 0 where
  pub as_many : length lists ≡ length labels + 1
  pub first : get_or lists 0 [] ≡ []
  pub next : (k : ℕ) → k < length labels → get_or lists (k + 1) [] ≡ list_by lists (label_at labels k)

-- another state goes last, with its label
pub record IsAdded {S : Type 0} (next : S) (mark : Label) (states : List S) (labels : List Label) (states_after : List S) (labels_after : List Label) : Type 0 where
  pub states_are : states_after ≡ states ++ next ∷ []
  pub labels_are : labels_after ≡ labels ++ mark ∷ []

-- nothing changes
pub record IsSame {S : Type 0} (states : List S) (labels : List Label) (states_after : List S) (labels_after : List Label) : Type 0 where
  pub states_are : states_after ≡ states
  pub labels_are : labels_after ≡ labels
