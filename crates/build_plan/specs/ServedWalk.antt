-- What was walked to throw gliders.
use Rattle.std.specs.Prelude.{◌≡◌, Bool, true, false, List, ◌++◌}
use Rattle.elbow_graph.specs.declared.elbow.Elbow.{Elbow}
use Rattle.recipe_turn.specs.Checked.{raws}
use Rattle.recipe_book.specs.Checked.{CheckedEntries}
use Rattle.build_plan.specs.Served.{AreServed}
use Rattle.build_plan.specs.declared.event.Event.{Event}
use Rattle.build_plan.specs.declared.throw.Throw.{Throw}
use Rattle.build_plan.specs.declared.walk.Walk.{Walk}

-- events throw the gliders one after the other from an elbow, by turns of this book
abbrev pub ServedBy : CheckedEntries → Elbow → List Throw → List Event → Elbow → Type 0
ServedBy book from throws events to = AreServed (raws book.turns) book.settings.span from throws events to

-- some events were added
abbrev pub AddsEvents : Walk → Walk → List Event → Type 0
AddsEvents old new more = new.events.items ≡ old.events.items ++ more

-- all gliders are thrown by what was added, or none could
abbrev pub IsServed : CheckedEntries → Walk → Walk → List Throw → Bool → Type 0
IsServed book old new throws true = (more : List Event) × (AddsEvents old new more × ServedBy book old.elbow throws more new.elbow)
IsServed book old new throws false = (more : List Event) × (AddsEvents old new more × ((events : List Event) (to : Elbow) → ServedBy book old.elbow throws events to → ⊥))
