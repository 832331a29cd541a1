use Rattle.std.specs.List.{AllByRecursion}
use Rattle.hand_route.specs.Carriers.{number_of, CarriesBy, IsNear}
use Rattle.hand_route.proofs.Sorting.{AreSoFar}
use Rattle.hand_route.proofs.salvos.carriers_of.Given as goal

abbrev pub invariant-loop-place : goal.invariant-loop-place
invariant-loop-place l = AreSoFar number_of CarriesBy l.salvos l.place l.carriers.items × AllByRecursion IsNear l.carriers.items
