use Rattle.breadth_search.specs.OrderLaws.{same_from_at_most}
use Rattle.elbow_route.proofs.laws.least_lists_are_one.Goals as goal

pub returns : goal.returns
returns c = λ turns span goal from a b h k. same_from_at_most a b (h.least b k.ends) (k.least a h.ends)
