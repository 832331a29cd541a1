-- The events of turns that follow one another at the elbow.
use Rattle.std.specs.Prelude.{ℕ, ◌+◌, ◌+ℤ◌, List, [], ◌∷◌, length, Option}
use Rattle.std.specs.declared.option.Option.TheVariants.{Some, None}
use Rattle.book_parts.specs.declared.turn.RawTurn.{RawTurn}
use Rattle.book_parts.specs.declared.turn.TurnEnd.{TurnEnd}
use Rattle.book_parts.specs.declared.turn.TurnEnd.TheVariants.{Close, Move, Emit}
use Rattle.elbow_graph.specs.declared.elbow.Elbow.{Elbow}
use Rattle.elbow_graph.specs.Elbows.{elbow}
use Rattle.build_plan.specs.Numbers.{item_of}
use Rattle.build_plan.specs.declared.event.Event.{Event}
use Rattle.build_plan.specs.declared.event.Event.TheVariants.{Turn, Hit}

-- where a turn of this end moves the elbow; one that closes it moves it nowhere
abbrev pub moved_by : TurnEnd → Elbow → Elbow
moved_by Close from = from
moved_by (Move kind advance) from = elbow kind (from.shift +ℤ advance)
moved_by (Emit kind advance lane j) from = elbow kind (from.shift +ℤ advance)

-- the elbow after the turn with a number
abbrev pub elbow_past : Option RawTurn → Elbow → Elbow
elbow_past None from = from
elbow_past (Some turn) from = moved_by turn.end from

-- the elbow after the turns with these numbers, one after the other
abbrev pub elbow_after : List RawTurn → Elbow → List ℕ → Elbow
elbow_after turns from [] = from
elbow_after turns from (k ∷ ks) = elbow_after turns (elbow_past (item_of turns k) from) ks

-- their events: each turn with the shift before it
abbrev pub turn_events : List RawTurn → Elbow → List ℕ → List Event
turn_events turns from [] = []
turn_events turns from (k ∷ ks) = Turn k from.shift ∷ turn_events turns (elbow_past (item_of turns k) from) ks

-- the stream gliders of a turn: one for each of its delays
abbrev pub delays_of : Option RawTurn → ℕ
delays_of None = 0
delays_of (Some turn) = length turn.delays

-- the stream gliders of events
abbrev pub gliders_of : List RawTurn → List Event → ℕ
gliders_of turns [] = 0
gliders_of turns (Turn number shift ∷ events) = delays_of (item_of turns number) + gliders_of turns events
gliders_of turns (Hit salvo place at ∷ events) = gliders_of turns events
