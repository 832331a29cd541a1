use Rattle.std.proofs.Common.{ap, length}
use Rattle.life_cells.proofs.cell_set.CellSet.len.Goals as goal

pub returns : goal.returns
returns c = ap length c.cells.ensures.order
