use Rattle.std.proofs.Common.{◌-◌, ◌^◌}
use Rattle.breadth_search.specs.First.{IsGrown}
use Rattle.breadth_search.specs.Seeking.{IsSeeking}
use Rattle.breadth_search.proofs.labelling.Labelling.search.Given as goal

abbrev pub invariant-states : goal.invariant-states
invariant-states g l = IsSeeking g.G.Graph.leads g.G.Ending.ends g.S.PartialEq.eq l.initial.self.graph l.initial.self.from l.self l.place × IsGrown l.initial.self.states l.self.states

abbrev pub decreases-states : goal.decreases-states
decreases-states g l = 2 ^ 64 - l.place
