-- The gliders of a stream by their indices on its lane.
use Rattle.std.specs.Prelude.{◌≡◌, ℤ, pos, ◌+ℤ◌, ◌-ℤ◌, ◌*ℤ◌, ◌≤ℤ◌, List, [], ◌∷◌, ◌++◌, map}
use Rattle.life_plane.specs.Plane.{Plane, nothing, union}
use Rattle.life_plane.specs.Tracks.{gap, stream_glider}
use Rattle.book_parts.specs.declared.settings.Settings.{Settings}
use Rattle.event_times.specs.TimedTurns.{Timed}
use Rattle.event_times.specs.Events.{Event, stream_of}
use Rattle.event_times.specs.Events.Event.{Turn, Hit}

-- the index at generation 0 of the glider of a turn's delay
abbrev pub index_of : Settings → Timed → ℤ → ℤ
index_of settings m delay = ((pos 4 *ℤ m.shift -ℤ pos m.start) -ℤ settings.approach) -ℤ delay

-- those of all turns, in order
abbrev pub indices : Settings → List Event → List ℤ
indices settings [] = []
indices settings (Turn m ∷ events) = map (index_of settings m) m.turn.delays ++ indices settings events
indices settings (Hit h ∷ events) = indices settings events

-- the stream's gliders of these indices
abbrev pub gliders_at : List ℤ → Plane
gliders_at [] = nothing
gliders_at (j ∷ js) = union (stream_glider j) (gliders_at js)

-- each index is at least a gap behind the one before it
abbrev pub AreBehind : ℤ → List ℤ → Type 0
AreBehind before [] = Unit {0}
AreBehind before (j ∷ js) = ((j +ℤ pos gap) ≤ℤ before) × AreBehind j js

abbrev pub AreInLine : List ℤ → Type 0
AreInLine [] = Unit {0}
AreInLine (j ∷ js) = AreBehind j js

-- the stream of these events is the gliders of their indices, on one lane, each behind the one before it
pub record IsOneLane (settings : Settings) (events : List Event) : Type 0 where
  pub stream : stream_of settings events ≡ gliders_at (indices settings events)
  pub in_line : AreInLine (indices settings events)
