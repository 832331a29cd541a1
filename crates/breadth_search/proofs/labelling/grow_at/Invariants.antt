use Rattle.std.proofs.Common.{◌-◌, ◌^◌}
use Rattle.breadth_search.specs.Labels.{IsSame}
use Rattle.breadth_search.specs.Search.{bound_past, first_of, IsKept}
use Rattle.breadth_search.proofs.labelling.grow_at.Given as goal

abbrev pub invariant-numbers : goal.invariant-numbers
invariant-numbers g l = IsKept (g.G.Graph.leads l.graph) g.S.PartialEq.eq (first_of l.initial.found.states.keys l.at) l.place l.last l.found.states.keys l.found.labels.items
    × IsSame l.initial.found.states.keys l.initial.found.labels.items l.found.states.keys l.found.labels.items

abbrev pub decreases-numbers : goal.decreases-numbers
decreases-numbers g l = 2 ^ 64 - bound_past l.last
