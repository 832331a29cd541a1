-- A book and what the first candidates of its finder add.
use Rattle.std.specs.Prelude.{◌≡◌, ℕ, List, ◌++◌, length, take}
use Rattle.book_parts.specs.Said.{Said}
use Rattle.book_parts.specs.declared.turn.RawTurn.{RawTurn}
use Rattle.book_parts.specs.declared.salvo.RawSalvo.{RawSalvo}
use Rattle.find_order.specs.Candidates.{candidates}
use Rattle.find_order.specs.declared.candidate.Candidate.{Candidate}
use Rattle.recipe_find.specs.Adding.{AddsSalvo, AddsTurn, AreAdded}

-- the first candidates of a book, up to so many; they count from 1
abbrev pub first_candidates : Said → ℕ → List Candidate
first_candidates book budget = take budget (candidates book.settings (length book.kinds))

-- a book with more turns and salvos behind its own
abbrev pub with_more : Said → List RawTurn → List RawSalvo → Said
with_more book turns salvos = record book { turns = book.turns ++ turns; salvos = book.salvos ++ salvos }

-- the whole: the book, and what its first candidates add
pub record IsExtended (book : Said) (budget : ℕ) (whole : Said) : Type 0 where
  pub turns : List RawTurn
  pub turns_are : AreAdded (AddsTurn book) 1 (first_candidates book budget) turns
  pub salvos : List RawSalvo
  pub salvos_are : AreAdded (AddsSalvo book) 1 (first_candidates book budget) salvos
  pub whole_is : whole ≡ with_more book turns salvos
