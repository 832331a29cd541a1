use Rattle.lane_clear.proofs.Barred.{AreLowered}
use Rattle.lane_clear.proofs.barriers.add_cell.Given as goal

abbrev pub invariant-loop-lane : goal.invariant-loop-lane
invariant-loop-lane l = AreLowered l.initial.barriers l.barriers l.fn.cell l.initial.lane l.lane
