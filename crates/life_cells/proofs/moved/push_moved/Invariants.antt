use Rattle.std.proofs.Common.{◌≡◌, ◌++◌, map, take}
use Rattle.life_cells.specs.Moved.{moved}
use Rattle.life_cells.proofs.moved.push_moved.Given as goal

abbrev pub invariant-loop-cell : goal.invariant-loop-cell
invariant-loop-cell l = l.into.items ≡ l.initial.into.items ++ map (moved l.dx l.dy) (take l.cell-index l.cells)
