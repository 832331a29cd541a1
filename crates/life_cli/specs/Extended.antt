-- `extend BOOK BUDGET`: a book, and behind its accepted entries what its finder adds.
use Rattle.std.specs.Prelude.{ℕ, ◌*◌, List}
use Rattle.std.specs.List.{AllByRecursion}
use Rattle.book_parts.specs.Proper.{IsProperKind}
use Rattle.book_text.specs.Book.{Said, IsBookText}
use Rattle.recipe_turn.specs.Checked.{AreValid}
use Rattle.recipe_book.specs.Checked.{CheckedEntries, said_of}
use Rattle.recipe_find.specs.Extended.{IsExtended}
use Rattle.recipe_find.specs.Refusals.{HasRoom, IsTooFull}
use Rattle.recipe_find.specs.declared.limits.TheConstants.{MOST_GENERATIONS}
use Rattle.life_cli.specs.Book.{ReadsAsBook, book_tests}
use Rattle.life_cli.specs.Inputs.{Told, book_input}
use Rattle.life_cli.specs.Stages.{Stages}
use Rattle.life_cli.specs.Stages.Stages.{Answer, Stage}
use Rattle.life_cli.specs.declared.status.Status.{Status}
use Rattle.life_cli.specs.declared.status.Status.TheVariants.{BookFull}

-- ---- the finder

-- A book whose kinds are valid comes out of its finder as this: its accepted entries, and behind them what its first candidates add, up to the
-- budget, with room for all.
pub record ComesTo (book : CheckedEntries) (budget : ℕ) (whole : Said) : Type 0 where
  pub kinds : AllByRecursion IsProperKind book.kinds
  pub valid : AreValid book.settings book.kinds
  pub extended : IsExtended (said_of book) budget whole
  pub room : HasRoom whole

-- the finder refuses so: there are too many salvos, turns or cells
abbrev pub FinderRefuses : CheckedEntries → ℕ → Status → Type 0
FinderRefuses book budget (BookFull what count) = IsTooFull (said_of book) budget what count
FinderRefuses book budget other = ⊥

-- ---- the answer

-- the bytes are the canonical text of the whole, and are read as it
pub record IsWholeText (whole : Said) (bytes : List ℕ) : Type 0 where
  pub written : IsBookText whole bytes
  pub read_back : ReadsAsBook bytes whole

-- ---- the stages

-- from the checked book on
abbrev pub finding : CheckedEntries → ℕ → Stages
finding book budget = Stage Said (ComesTo book budget) (FinderRefuses book budget) (MOST_GENERATIONS * budget) (λ whole. Answer 0 (IsWholeText whole))

-- from the book on
abbrev pub extending : Said → ℕ → Stages
extending said budget = book_tests said (λ book. finding book budget)

abbrev pub extend : Told → List ℕ → ℕ → Stages
extend told name budget = book_input told name (λ said. extending said budget)
