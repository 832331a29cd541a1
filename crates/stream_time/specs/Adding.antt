-- One more event of a plan in time.
use Rattle.std.specs.Prelude.{◌≡◌, ℕ, pos, ◌*ℤ◌, ◌≤ℤ◌, Option}
use Rattle.std.specs.declared.option.Option.TheVariants.{Some}
use Rattle.book_parts.specs.declared.turn.RawTurn.{RawTurn}
use Rattle.elbow_graph.specs.Numbered.{IsNumbered}
use Rattle.recipe_turn.specs.Checked.{raws}
use Rattle.recipe_hit.specs.Checked.{Struck}
use Rattle.recipe_hit.specs.declared.frame.Hit as hits
use Rattle.recipe_book.specs.Checked.{CheckedEntries}
use Rattle.lane_clear.specs.Frames.{moved_frame}
use Rattle.event_times.specs.declared.clock.Clock.{Clock}
use Rattle.event_times.specs.declared.least.Sent.{Sent}
use Rattle.event_times.specs.Clock.{TurnIsAdded, HitIsAdded}
use Rattle.build_plan.specs.declared.event.Event.{Event}
use Rattle.build_plan.specs.declared.event.Event.TheVariants.{Turn, Hit}

-- the hit at this place of the salvo with a number
abbrev pub IsHitThere : CheckedEntries → ℕ → ℕ → hits.Hit → Type 0
IsHitThere book number place hit = (salvo : Struck) × (IsNumbered book.salvos number salvo × IsNumbered salvo.hits place hit)

-- the glider thrown last comes to the hit after it was thrown
abbrev pub GliderComes : CheckedEntries → Event → Option Sent → Type 0
GliderComes book (Turn number shift) sent = Unit {0}
GliderComes book (Hit number place at) sent =
    (hit : hits.Hit) → IsHitThere book number place hit → (glider : Sent) → sent ≡ Some glider → glider.glider.j ≤ℤ (pos 4 *ℤ (moved_frame at hit.frame).start)

-- the event was added: the book's turn with its number, or the book's hit at its place, moved to where the hand is
abbrev pub EventIsAdded : CheckedEntries → Event → Clock → Clock → Type 0
EventIsAdded book (Turn number shift) old new = (turn : RawTurn) × (IsNumbered (raws book.turns) number turn × TurnIsAdded book.settings.reach turn shift old new)
EventIsAdded book (Hit number place at) old new = (hit : hits.Hit) × (IsHitThere book number place hit × HitIsAdded (moved_frame at hit.frame) hit.generations old new)
