use Rattle.life_cells.proofs.Closeness.{close_set}
use Rattle.life_cells.proofs.cell_set.CellSet.has_close.Goals as goal

pub returns : goal.returns
returns c = close_set _ _ _ _ _ c.cells.ensures.order c.has_close.ensures
