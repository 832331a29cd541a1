use Rattle.std.proofs.Common.{◌≡◌, ◌-◌, ◌^◌, length}
use Rattle.std.specs.List.{Contains}
use Rattle.breadth_search.specs.First.{IsGrown}
use Rattle.hand_route.proofs.ways.HandWays.find.Given as goal

abbrev pub invariant-places : goal.invariant-places
invariant-places l = (l.self.graph ≡ l.initial.self.graph) × ((l.self.from ≡ l.initial.self.from) × (IsGrown l.initial.self.states l.self.states × (Contains l.self.states l.to → ⊥)))

abbrev pub decreases-places : goal.decreases-places
decreases-places l = 2 ^ 63 - length l.self.states
