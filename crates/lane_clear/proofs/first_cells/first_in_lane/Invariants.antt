use Rattle.lane_clear.specs.Clear.{IsAside}
use Rattle.lane_clear.proofs.FirstFailing.{HoldsBefore}
use Rattle.lane_clear.proofs.first_cells.first_in_lane.Given as goal

abbrev pub invariant-loop-cell : goal.invariant-loop-cell
invariant-loop-cell l = HoldsBefore (IsAside l.frame) l.cell-items l.cell-index
