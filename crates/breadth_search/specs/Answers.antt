-- What a search for a list that ends answers.
use Rattle.std.specs.Prelude.{ℕ, ◌<◌, ◌^◌, Bool, List}
use Rattle.breadth_search.specs.declared.outcome.Outcome.{Outcome}
use Rattle.breadth_search.specs.declared.outcome.Outcome.TheVariants.{Route, Nowhere, More}
use Rattle.breadth_search.specs.States.{HasReached, HasReachedMore}
use Rattle.breadth_search.specs.Walks.{EndsWith, IsLeastEnding}

-- the least list that ends; or none does, with how many states are reached; or more states than the limit are reached
abbrev pub AnswersSo : {S : Type 0} → (S → S → Bool) → (ℕ → S → S → Type 0) → (ℕ → S → Type 0) → S → ℕ → Outcome → Type 0
AnswersSo eq Next Last from limit (Route list) = IsLeastEnding Next Last from list.items
AnswersSo eq Next Last from limit (Nowhere count) = HasReached eq Next from limit count × ((list : List ℕ) → EndsWith Next Last from list → ⊥)
AnswersSo eq Next Last from limit More = HasReachedMore eq Next from limit × (limit < 2 ^ 63)
