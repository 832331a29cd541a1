use Rattle.std.proofs.Common.{◌-◌, ◌^◌}
use Rattle.life_cells.specs.Listed.{same_cell}
use Rattle.breadth_search.specs.First.{IsGrown}
use Rattle.breadth_search.specs.Seeking.{IsSeeking}
use Rattle.hand_route.specs.Ways.{carries, takes}
use Rattle.hand_route.proofs.ways.HandWays.farewell.Given as goal

abbrev pub invariant-places : goal.invariant-places
invariant-places l = IsSeeking carries takes same_cell l.initial.self.graph l.initial.self.from l.self l.number × IsGrown l.initial.self.states l.self.states

abbrev pub decreases-places : goal.decreases-places
decreases-places l = 2 ^ 64 - l.number
