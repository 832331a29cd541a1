use Rattle.lane_clear.proofs.BoxRows.{NoneAbove, rows_left}
use Rattle.lane_clear.proofs.rows.is_bare.Given as goal

abbrev pub invariant-rows : goal.invariant-rows
invariant-rows l = NoneAbove l.bounds l.cells l.row

abbrev pub decreases-rows : goal.decreases-rows
decreases-rows l = rows_left l.bounds l.row
