use Rattle.std.proofs.Common.{◌-◌}
use Rattle.life_cells.specs.Cells.{cell}
use Rattle.life_cells.proofs.Closeness.{IsHalved}
use Rattle.life_cells.proofs.close.first_from.Given as goal

abbrev pub invariant-halves : goal.invariant-halves
invariant-halves l = IsHalved l.cells (cell l.x l.y) l.low l.high

abbrev pub decreases-halves : goal.decreases-halves
decreases-halves l = l.high - l.low
