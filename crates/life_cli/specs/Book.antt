-- What a book's text says, the tests that the book is to pass, and what is known of it once it passed them.
use Rattle.std.specs.Prelude.{◌≡◌, ◌≢◌, ℕ, ◌+◌, ◌+ℤ◌, ◌≤ℤ◌, List, length}
use Rattle.std.specs.List.{AllByRecursion}
use Rattle.life_plane.specs.Plane.{IsStill}
use Rattle.life_cells.specs.Cells.{Cells, alive}
use Rattle.book_parts.specs.Said.{Said}
use Rattle.book_parts.specs.declared.limits.TheConstants.{WALL_MARGIN}
use Rattle.book_text.specs.Book.{Says}
use Rattle.recipe_turn.specs.Checked.{AreValid, IsOf, raws}
use Rattle.recipe_hit.specs.Checked.{Struck}
use Rattle.recipe_hit.specs.Sound.{AreHits}
use Rattle.elbow_graph.specs.States.{HasStates}
use Rattle.recipe_book.specs.Checked.{CheckedEntries, raw_salvos}
use Rattle.book_parts.specs.declared.limits.TheConstants.{MOST_STATES}
use Rattle.recipe_book.specs.Entries.{AreTheSound, AreTheSoundSalvos}
use Rattle.recipe_book.specs.Refusals.{BookIsRefused, generations, most_hit_generations}
use Rattle.recipe_book.specs.declared.refusal.BookRefusal as check
use Rattle.life_cli.specs.Stages.{Stages}
use Rattle.life_cli.specs.Stages.Stages.{Stage}
use Rattle.life_cli.specs.declared.status.Status.{Status}
use Rattle.life_cli.specs.declared.status.Status.TheVariants.{BadBook}

-- a text reads as a book: it has the form, and the reach is past the wall
pub record ReadsAsBook (text : List ℕ) (said : Said) : Type 0 where
  pub says : Says text said
  pub wide : (said.settings.wall +ℤ WALL_MARGIN) ≤ℤ said.settings.reach

-- an accepted salvo was struck at this hand, with these hits
pub record IsStruckAt (hand : Cells) (salvo : Struck) : Type 0 where
  pub hand_is : salvo.hand ≡ hand
  pub hits_are : AreHits (alive hand) salvo.raw.lanes salvo.hits

-- A book passes its tests, and comes out of them as this: its kinds are valid, its hand is still, its accepted turns and salvos are exactly the
-- sound ones, and the turns lead the elbow to few states.
pub record PassesTests (said : Said) (book : CheckedEntries) : Type 0 where
  pub settings : book.settings ≡ said.settings
  pub kinds : book.kinds ≡ said.kinds
  pub start : book.start ≡ said.start
  pub hand : book.hand ≡ said.hand
  pub valid : AreValid said.settings said.kinds
  pub still : IsStill (alive said.hand)
  pub turns : AreTheSound said.settings said.kinds said.turns (raws book.turns)
  pub own_turns : AllByRecursion (IsOf said.settings said.kinds) book.turns
  pub salvos : AreTheSoundSalvos (alive said.hand) said.salvos (raw_salvos book.salvos)
  pub own_salvos : AllByRecursion (IsStruckAt said.hand) book.salvos
  pub count : ℕ
  pub states : HasStates (raws book.turns) said.start said.settings.span MOST_STATES count

-- the tests refuse so
abbrev pub TestsRefuse : Said → Status → Type 0
TestsRefuse said (BadBook e) = (e ≢ check.TheVariants.Memory) × BookIsRefused said.settings said.hand said.kinds said.start said.turns e
TestsRefuse said other = ⊥

-- the most generations that the tests count: those of all turns, 4,097 for each lane, one for each kind and one for the hand
abbrev pub most_tested : Said → ℕ
most_tested said = ((generations said.turns + most_hit_generations said.salvos) + length said.kinds) + 1

-- the stage that tests a book, and passes with what is left of it
abbrev pub book_tests : Said → (CheckedEntries → Stages) → Stages
book_tests said next = Stage CheckedEntries (PassesTests said) (TestsRefuse said) (most_tested said) next
