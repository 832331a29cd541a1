use Rattle.std.proofs.Common.{◌-◌, length}
use Rattle.life_cells.proofs.Differing.{SameFront}
use Rattle.life_cells.proofs.difference.first_difference_of.Given as goal

abbrev pub invariant-same : goal.invariant-same
invariant-same l = SameFront l.left l.right l.i

abbrev pub decreases-same : goal.decreases-same
decreases-same l = length l.left - l.i
