use Rattle.lane_clear.specs.Clear.{IsAside}
use Rattle.lane_clear.specs.Frames.{farthest}
use Rattle.lane_clear.proofs.FirstFailing.{holds_of_more, holds_of_all, first_failing}
use Rattle.lane_clear.proofs.first_cells.first_in_lane.Goals as goal
use Rattle.life_cone.specs.CellLaws.{place_in_range}

pub is_aside-requires-clause-cell : goal.is_aside-requires-clause-cell
is_aside-requires-clause-cell c = place_in_range farthest _ c.args.built.now c.loop-cell.cell-index _ c.requires.built c.cells-cell-items.ensures.order c.loop-cell-test.true

pub returns-then-not-is_aside : goal.returns-then-not-is_aside
returns-then-not-is_aside c =
    first_failing (IsAside c.args.frame) _ c.args.built.now c.loop-cell.cell-index _ c.cells-cell-items.ensures.order c.cells-cell-items.ensures.rising c.loop-cell-test.true c.loop-cell.invariant
    _ c.is_aside.ensures c.if-not-is_aside.true

pub loop-cell-preserved : goal.loop-cell-preserved
loop-cell-preserved c = holds_of_more (IsAside c.args.frame) _ c.loop-cell.cell-index _ c.loop-cell-test.true c.loop-cell.invariant (c.is_aside.ensures.0 c.if-not-is_aside.false)

pub returns : goal.returns
returns c = holds_of_all (IsAside c.args.frame) _ c.args.built.now c.loop-cell.cell-index c.cells-cell-items.ensures.order c.loop-cell-test.false c.loop-cell.invariant
