use Rattle.std.proofs.Common.{take}
use Rattle.life_cells.specs.Boxes.{IsLeastBox}
use Rattle.life_cells.specs.Listed.{listed}
use Rattle.life_plane.specs.Plane.{Plane, union}
use Rattle.life_cells.proofs.bounding.widened.Given as goal

abbrev pub invariant-loop-cell : goal.invariant-loop-cell
invariant-loop-cell l = (s : Plane) → IsLeastBox l.initial.bounds s → IsLeastBox l.bounds (union s (listed (take l.cell-index l.cells)))
