use Rattle.std.proofs.Common.{◌-◌, ◌+◌, length}
use Rattle.life_cells.proofs.Merging.{IsMerging}
use Rattle.life_cells.proofs.merge.merged.Given as goal

abbrev pub invariant-cells : goal.invariant-cells
invariant-cells l = IsMerging l.left l.right l.i l.j l.all.items

abbrev pub decreases-cells : goal.decreases-cells
decreases-cells l = (length l.left - l.i) + (length l.right - l.j)
