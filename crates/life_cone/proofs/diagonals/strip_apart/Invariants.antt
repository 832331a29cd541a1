use Rattle.std.proofs.Common.{take}
use Rattle.life_plane.specs.Strips.{Each}
use Rattle.life_cells.specs.Listed.{listed}
use Rattle.life_cone.specs.Sides.{IsBesideStrip}
use Rattle.life_cone.proofs.diagonals.strip_apart.Given as goal

abbrev pub invariant-loop-cell : goal.invariant-loop-cell
invariant-loop-cell l = Each (IsBesideStrip l.low l.high) (listed (take l.cell-index l.cell-items))
