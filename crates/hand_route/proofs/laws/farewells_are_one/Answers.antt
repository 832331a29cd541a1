use Rattle.breadth_search.specs.OrderLaws.{same_from_at_most}
use Rattle.hand_route.proofs.laws.farewells_are_one.Goals as goal

pub returns : goal.returns
returns c = λ site from a b h k. same_from_at_most a b (h.least b k.ends) (k.least a h.ends)
