use Rattle.std.proofs.Common.{take}
use Rattle.life_cells.specs.Listed.{listed}
use Rattle.life_plane.specs.Apart.{Apart}
use Rattle.life_cells.proofs.apart.are_apart.Given as goal

abbrev pub invariant-loop-cell : goal.invariant-loop-cell
invariant-loop-cell l = Apart (listed (take l.cell-index l.left)) (listed l.right)
