-- From the refusal of the last test to that of the book.
use Rattle.std.specs.Prelude.{List}
use Rattle.life_cells.specs.Cells.{alive}
use Rattle.life_plane.specs.Plane.{IsStill}
use Rattle.book_parts.specs.declared.turn.RawTurn.{RawTurn}
use Rattle.book_parts.specs.Said.{Said}
use Rattle.recipe_turn.specs.Checked.{AreValid}
use Rattle.recipe_book.specs.Entries.{AreTheSound}
use Rattle.recipe_book.specs.Refusals.{BookIsRefused, StatesRefuse}
use Rattle.recipe_book.specs.declared.refusal.BookRefusal.{BookRefusal}
use Rattle.recipe_book.specs.declared.refusal.BookRefusal.TheVariants.{ElbowMany, Memory}

pub states_refuse : (book : Said) (sound : List RawTurn) (e : BookRefusal) → AreValid book.settings book.kinds → IsStill (alive book.hand) →
    AreTheSound book.settings book.kinds book.turns sound → StatesRefuse sound book.start book.settings.span e → BookIsRefused book.settings book.hand book.kinds book.start book.turns e
states_refuse book sound (ElbowMany count) valid still are h = (valid, (still, (h.0, record { sound = sound; are = are; more = h.1 })))
states_refuse book sound Memory valid still are h = tt
states_refuse book sound other valid still are h = absurd h
