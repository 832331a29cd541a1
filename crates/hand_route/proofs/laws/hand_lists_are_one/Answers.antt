use Rattle.breadth_search.specs.OrderLaws.{same_from_at_most}
use Rattle.hand_route.proofs.laws.hand_lists_are_one.Goals as goal

pub returns : goal.returns
returns c = λ site from to a b h k. same_from_at_most a b (h.least b k.leads) (k.least a h.leads)
