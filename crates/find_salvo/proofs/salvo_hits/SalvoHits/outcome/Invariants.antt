use Rattle.std.proofs.Common.{◌≡◌, ◌+◌, ◌*◌, ◌≤◌, take}
use Rattle.recipe_hit.specs.declared.limits.TheConstants.{MOST_COUNTED}
use Rattle.find_salvo.specs.Kept.{lanes_of, IsKept}
use Rattle.find_salvo.proofs.salvo_hits.SalvoHits.outcome.Given as goal

abbrev pub invariant-loop-lane : goal.invariant-loop-lane
invariant-loop-lane g l = record {
  hand : l.self.hand ≡ l.fn.self.hand;
  kept : IsKept l.self;
  struck : lanes_of l.self.hits ≡ take (l.shared + l.lane-index) l.lanes;
  least : l.initial.steps ≤ l.steps;
  most : l.steps ≤ l.initial.steps + MOST_COUNTED * l.lane-index;
}
