-- What a candidate adds to a book: a salvo, a turn, or nothing.
use Rattle.std.specs.Prelude.{◌≡◌, ◌⊎◌, ℕ, suc, List, [], ◌∷◌, ◌++◌, length, map}
use Rattle.std.specs.List.{Contains}
use Rattle.life_cells.specs.Cells.{alive}
use Rattle.book_parts.specs.Said.{Said}
use Rattle.book_parts.specs.Proper.{IsProperTurn, IsProperSalvo, entry_names}
use Rattle.book_parts.specs.declared.turn.RawTurn.{RawTurn}
use Rattle.book_parts.specs.declared.salvo.RawSalvo.{RawSalvo}
use Rattle.find_order.specs.declared.candidate.Candidate.{Candidate}
use Rattle.find_order.specs.declared.candidate.Candidate.TheVariants.{Lanes, Delays}
use Rattle.find_salvo.specs.Salvos.{IsSalvoOutcome}
use Rattle.find_salvo.specs.declared.outcome.Outcome.{Outcome}
use Rattle.find_turn.specs.Found.{IsLeastTurn}
use Rattle.find_turn.specs.declared.found_turn.FoundTurn.{FoundTurn}
use Rattle.recipe_find.specs.Names.{IsNewName}

-- the candidates that a salvo and a turn are of
abbrev pub lanes_of : RawSalvo → Candidate
lanes_of salvo = Lanes salvo.lanes

abbrev pub delays_of : RawTurn → Candidate
delays_of turn = Delays turn.kind turn.delays

-- those of which a book has entries
abbrev pub known : Said → List Candidate
known book = map lanes_of book.salvos ++ map delays_of book.turns

-- what a salvo states of its outcome, and a turn of its end
abbrev pub outcome_of : RawSalvo → Outcome
outcome_of salvo = record { product = salvo.product; hand = salvo.hand }

abbrev pub end_of : RawTurn → FoundTurn
end_of turn = record { n = turn.n; end = turn.end }

-- The candidate with this number adds this salvo: it is a list of lanes that no salvo of the book has, and the salvo states the outcome of its
-- lanes and is within the limits of a book.
pub record AddsSalvo (book : Said) (number : ℕ) (candidate : Candidate) (salvo : RawSalvo) : Type 0 where
  pub lanes : candidate ≡ lanes_of salvo
  pub unknown : Contains (known book) candidate → ⊥
  pub outcome : IsSalvoOutcome (alive book.hand) salvo.lanes (outcome_of salvo)
  pub name : IsNewName (entry_names book) number salvo.name
  pub proper : IsProperSalvo salvo

-- It adds this turn: it is a kind and a list of delays that no turn of the book has, and the turn is the least sound one and is within the
-- limits of a book.
pub record AddsTurn (book : Said) (number : ℕ) (candidate : Candidate) (turn : RawTurn) : Type 0 where
  pub delays : candidate ≡ delays_of turn
  pub unknown : Contains (known book) candidate → ⊥
  pub least : IsLeastTurn book.settings book.kinds turn.kind turn.delays (end_of turn)
  pub name : IsNewName (entry_names book) number turn.name
  pub proper : IsProperTurn (length book.kinds) turn

-- these are exactly what the candidates add, in their order, the first candidate having this number
abbrev pub AreAdded : {A : Type 0} → (ℕ → Candidate → A → Type 0) → ℕ → List Candidate → List A → Type 0
AreAdded Adds number [] added = added ≡ []
AreAdded {A} Adds number (candidate ∷ candidates) added =
    ((entry : A) × (Adds number candidate entry × ((rest : List A) × ((added ≡ entry ∷ rest) × AreAdded Adds (suc number) candidates rest))))
    ⊎ (((entry : A) → Adds number candidate entry → ⊥) × AreAdded Adds (suc number) candidates added)
