use Rattle.life_cells.proofs.Boxing.{least_of_list}
use Rattle.life_cells.proofs.bounding.bounds_of.Goals as goal

pub returns-clause-some : goal.returns-clause-some
returns-clause-some c = least_of_list _ _ _ _ c.in-len1-up.len_at_least c.at.ensures c.widened.ensures
