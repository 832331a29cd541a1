-- Items of a list by their numbers, counted from 1.
use Rattle.std.specs.Prelude.{◌≡◌, ℕ, zero, suc, List, [], ◌∷◌}

-- the item with this number
abbrev pub IsNumbered : {X : Type 0} → List X → ℕ → X → Type 0
IsNumbered [] k item = ⊥
IsNumbered (first ∷ items) zero item = ⊥
IsNumbered (first ∷ items) (suc zero) item = item ≡ first
IsNumbered (first ∷ items) (suc (suc k)) item = IsNumbered items (suc k) item
