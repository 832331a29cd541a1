use Rattle.std.proofs.Common.{ap}
use Rattle.hand_route.specs.Rooms.{Places}
use Rattle.hand_route.proofs.Kept.{kept_begins}
use Rattle.hand_route.proofs.ways.HandWays.start.Goals as goal

pub invariant_of-result : goal.invariant_of-result
invariant_of-result c = kept_begins _ c.args.from _ _ (ap (λ (p : Places). p.cells) c.in_ok-found.ensures) (ap (λ (p : Places). p.labels) c.in_ok-found.ensures)
