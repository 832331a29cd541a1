use Rattle.hand_route.proofs.CarriedPlaces.{AreTriedSoFar}
use Rattle.hand_route.specs.Ways.{ground}
use Rattle.hand_route.proofs.ways.next_carrier.Given as goal

abbrev pub invariant-loop-carrier : goal.invariant-loop-carrier
invariant-loop-carrier l = AreTriedSoFar (ground l.salvos l.built l.found.room) l.found.cells l.at l.tried l.carrier-items l.carrier-index
