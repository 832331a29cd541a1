use Rattle.life_cells.proofs.Closeness.{apart_sets}
use Rattle.life_cells.proofs.cell_set.CellSet.apart.Goals as goal

pub returns : goal.returns
returns c = apart_sets _ _ _ _ _ c.cells.ensures.order c.cells-2.ensures.order c.are_apart.ensures
