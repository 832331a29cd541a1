-- The events that throw gliders one after the other: for each the least list of turns for its lane, and then its hit.
use Rattle.std.specs.Prelude.{◌≡◌, ℕ, ℤ, List, [], ◌∷◌, ◌++◌}
use Rattle.book_parts.specs.declared.turn.RawTurn.{RawTurn}
use Rattle.elbow_graph.specs.declared.elbow.Elbow.{Elbow}
use Rattle.elbow_route.specs.Lists.{IsLeastServing}
use Rattle.build_plan.specs.TurnEvents.{turn_events, elbow_after}
use Rattle.build_plan.specs.declared.event.Event.{Event}
use Rattle.build_plan.specs.declared.event.Event.TheVariants.{Hit}
use Rattle.build_plan.specs.declared.throw.Throw.{Throw}

-- the hit of a thrown glider
abbrev pub hit_event : Throw → Event
hit_event throw = Hit throw.salvo throw.place throw.at

-- these events throw the gliders in their order, and lead the elbow to another: for each glider there is a least list that serves its lane from
-- the elbow that the glider before left
abbrev pub AreServed : List RawTurn → ℤ → Elbow → List Throw → List Event → Elbow → Type 0
AreServed turns span from [] events to = (events ≡ []) × (to ≡ from)
AreServed turns span from (throw ∷ throws) events to =
    (list : List ℕ) × ((rest : List Event) × (IsLeastServing turns span throw.lane from list
    × ((events ≡ turn_events turns from list ++ hit_event throw ∷ rest) × AreServed turns span (elbow_after turns from list) throws rest to)))
