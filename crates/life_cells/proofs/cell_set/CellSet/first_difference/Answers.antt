use Rattle.life_cells.proofs.Differing.{difference_of_sets, no_difference}
use Rattle.life_cells.proofs.cell_set.CellSet.first_difference.Goals as goal

pub returns-clause-some : goal.returns-clause-some
returns-clause-some c = difference_of_sets _ _ _ _ _ c.cells.ensures.order c.cells-2.ensures.order c.first_difference_of.ensures.some

pub returns-clause-none : goal.returns-clause-none
returns-clause-none c = no_difference _ _ _ _ _ c.cells.ensures.order c.cells-2.ensures.order c.first_difference_of.ensures.none
