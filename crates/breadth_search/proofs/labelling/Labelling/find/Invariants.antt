use Rattle.std.proofs.Common.{◌≡◌, ◌-◌, ◌^◌, length}
use Rattle.std.specs.List.{Contains}
use Rattle.breadth_search.specs.First.{IsGrown}
use Rattle.breadth_search.proofs.labelling.Labelling.find.Given as goal

abbrev pub invariant-states : goal.invariant-states
invariant-states g l = (l.self.graph ≡ l.initial.self.graph) × ((l.self.from ≡ l.initial.self.from) × (IsGrown l.initial.self.states l.self.states × (Contains l.self.states l.to → ⊥)))

abbrev pub decreases-states : goal.decreases-states
decreases-states g l = 2 ^ 63 - length l.self.states
