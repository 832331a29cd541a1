use Rattle.hand_route.proofs.CarriedPlaces.{NoneTakesSoFar}
use Rattle.hand_route.proofs.ways.first_taker.Given as goal

abbrev pub invariant-loop-number : goal.invariant-loop-number
invariant-loop-number l = NoneTakesSoFar l.salvos l.built l.at l.number-items l.number-index
