use Rattle.std.proofs.Common.{take}
use Rattle.life_plane.specs.Strips.{Each, UAtLeast}
use Rattle.life_cells.specs.Listed.{listed}
use Rattle.life_cone.proofs.diagonals.all_at_least.Given as goal

abbrev pub invariant-loop-cell : goal.invariant-loop-cell
invariant-loop-cell l = Each (UAtLeast l.limit) (listed (take l.cell-index l.cell-items))
