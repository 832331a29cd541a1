use Rattle.lane_clear.specs.Clear.{IsOffBounds}
use Rattle.lane_clear.proofs.FirstFailing.{HoldsBefore}
use Rattle.lane_clear.proofs.first_cells.first_near.Given as goal

abbrev pub invariant-loop-cell : goal.invariant-loop-cell
invariant-loop-cell l = HoldsBefore (IsOffBounds l.bounds) l.cell-items l.cell-index
