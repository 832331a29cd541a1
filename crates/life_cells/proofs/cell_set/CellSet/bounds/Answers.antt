use Rattle.life_cells.proofs.Boxing.{least_of_set, none_of_set}
use Rattle.life_cells.proofs.cell_set.CellSet.bounds.Goals as goal

pub returns-clause-some : goal.returns-clause-some
returns-clause-some c = least_of_set _ _ _ c.cells.ensures.order c.bounds_of.ensures.some

pub returns-clause-none : goal.returns-clause-none
returns-clause-none c = none_of_set _ _ _ c.cells.ensures.order c.bounds_of.ensures.none
