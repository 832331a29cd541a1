use Rattle.hand_route.specs.VisitLaws.{farewell_goes_free}
use Rattle.hand_route.proofs.laws.farewells_go_free.Goals as goal

pub returns : goal.returns
returns c = farewell_goes_free
