-- The first gaps are in the delays.
use Rattle.find_order.proofs.Delaying.{IsSoFar}
use Rattle.find_order.proofs.delays.delays_by.Given as goal

abbrev pub invariant-loop-gap : goal.invariant-loop-gap
invariant-loop-gap l = IsSoFar l.gaps l.delays.items l.time l.gap-index
