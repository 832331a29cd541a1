use Rattle.life_cells.specs.Laws.{from_list-none}
use Rattle.life_cells.specs.OrderLaws.{rising-none}
use Rattle.life_cells.proofs.cell_set.CellSet.empty.Goals as goal

pub invariant_of-result : goal.invariant_of-result
invariant_of-result c = rw c.new.ensures.items rising-none

pub returns : goal.returns
returns c = rw c.new.ensures.items from_list-none
