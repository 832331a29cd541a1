use Rattle.std.proofs.Common.{◌≡◌, ◌-◌, length}
use Rattle.breadth_search.specs.Labels.{IsSame}
use Rattle.breadth_search.specs.Search.{IsKept}
use Rattle.breadth_search.proofs.labelling.Labelling.grow.Given as goal

abbrev pub invariant-places : goal.invariant-places
invariant-places g l = IsKept (g.G.Graph.leads l.self-inside.graph) g.S.PartialEq.eq l.self-inside.from l.self-inside.place l.self-inside.number l.self-inside.found.states.keys l.self-inside.found.labels.items
    × (IsSame l.initial.self-inside.found.states.keys l.initial.self-inside.found.labels.items l.self-inside.found.states.keys l.self-inside.found.labels.items
    × ((l.self-inside.graph ≡ l.initial.self-inside.graph) × (l.self-inside.from ≡ l.initial.self-inside.from)))

abbrev pub decreases-places : goal.decreases-places
decreases-places g l = length l.initial.self-inside.found.states.keys - l.self-inside.place
