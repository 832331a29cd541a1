use Rattle.breadth_search.specs.OrderLaws.{same_from_at_most}
use Rattle.breadth_search.proofs.laws.least_lists_are_one.Goals as goal

pub returns : goal.returns
returns g c = λ graph from to a b h k. same_from_at_most a b (h.least b k.leads) (k.least a h.leads)
