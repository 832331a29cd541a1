-- A list gains what a candidate adds, or stays.
use Rattle.std.specs.Prelude.{◌≡◌, ◌⊎◌, ℕ, List, [], ◌∷◌, ◌++◌}
use Rattle.book_parts.specs.Said.{Said}
use Rattle.book_parts.specs.declared.turn.RawTurn.{RawTurn}
use Rattle.book_parts.specs.declared.salvo.RawSalvo.{RawSalvo}
use Rattle.find_order.specs.declared.candidate.Candidate.{Candidate}
use Rattle.recipe_find.specs.Adding.{AddsSalvo, AddsTurn}

-- what the candidate with this number adds is the last, or it adds nothing and the list stays
abbrev pub Gains : {A : Type 0} → (ℕ → Candidate → A → Type 0) → ℕ → Candidate → List A → List A → Type 0
Gains {A} Adds number candidate before after =
    ((entry : A) × (Adds number candidate entry × (after ≡ before ++ (entry ∷ []))))
    ⊎ (((entry : A) → Adds number candidate entry → ⊥) × (after ≡ before))

-- turns and salvos gain what the candidate with this number adds to a book
pub record Grow (book : Said) (number : ℕ) (candidate : Candidate) (turns turns_then : List RawTurn) (salvos salvos_then : List RawSalvo) : Type 0 where
  pub turns_gain : Gains (AddsTurn book) number candidate turns turns_then
  pub salvos_gain : Gains (AddsSalvo book) number candidate salvos salvos_then
