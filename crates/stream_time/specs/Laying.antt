-- The pattern of a plan as cells.
use Rattle.std.specs.Prelude.{◌≡◌, ℕ, ℤ, ◌^◌, pos, neg_ℤ, List}
use Rattle.life_plane.specs.Plane.{Plane, union}
use Rattle.life_cells.specs.Cells.{alive}
use Rattle.book_parts.specs.Limits.{IsFrom}
use Rattle.book_parts.specs.Kinds.{kind_plane}
use Rattle.recipe_book.specs.Checked.{CheckedEntries}
use Rattle.event_times.specs.Events.{stream_of}
use Rattle.plan_facts.specs.Happenings.{Happening, events_of}
use Rattle.plan_facts.specs.State.{hand_plane, first_hand}
use Rattle.build_plan.specs.declared.event.Event.{Event}
use Rattle.build_plan.specs.declared.event.Plan.{Plan}
use Rattle.build_plan.specs.Happenings.{AllStandFor}
use Rattle.stream_time.specs.InTime.{starts_of}

-- a time of gliders in the elbow's own frame
abbrev pub IsTime : ℤ → Type 0
IsTime z = IsFrom (neg_ℤ (pos (2 ^ 58))) (pos (2 ^ 58)) z

-- the events stand for these turns and hits, of which the turns start in these generations
pub record AreStarted (book : CheckedEntries) (events : List Event) (starts : List ℕ) (happenings : List Happening) : Type 0 where
  pub stand : AllStandFor book events happenings
  pub starts_are : starts ≡ starts_of happenings

-- the start kind, the first hand, if there is one, and each turn's gliders
abbrev pub laid : CheckedEntries → Plan → List Happening → Plane
laid book plan happenings =
    union (kind_plane book.kinds book.start) (union (hand_plane (alive book.hand) (first_hand plan.first_hand)) (stream_of book.settings (events_of happenings)))
