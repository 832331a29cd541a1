use Rattle.lane_clear.specs.Clear.{IsOffBounds}
use Rattle.lane_clear.specs.Frames.{farthest}
use Rattle.lane_clear.proofs.FirstFailing.{holds_of_more, holds_of_all, first_failing}
use Rattle.lane_clear.proofs.first_cells.first_near.Goals as goal
use Rattle.life_cone.specs.CellLaws.{place_in_range}

pub is_off_bounds-requires-clause-cell : goal.is_off_bounds-requires-clause-cell
is_off_bounds-requires-clause-cell c = place_in_range farthest _ c.args.built.now c.loop-cell.cell-index _ c.requires.built c.cells-cell-items.ensures.order c.loop-cell-test.true

pub returns-then-not-is_off_bounds : goal.returns-then-not-is_off_bounds
returns-then-not-is_off_bounds c =
    first_failing (IsOffBounds c.args.bounds) _ c.args.built.now c.loop-cell.cell-index _ c.cells-cell-items.ensures.order c.cells-cell-items.ensures.rising c.loop-cell-test.true c.loop-cell.invariant
    _ c.is_off_bounds.ensures c.if-not-is_off_bounds.true

pub loop-cell-preserved : goal.loop-cell-preserved
loop-cell-preserved c = holds_of_more (IsOffBounds c.args.bounds) _ c.loop-cell.cell-index _ c.loop-cell-test.true c.loop-cell.invariant (c.is_off_bounds.ensures.0 c.if-not-is_off_bounds.false)

pub returns : goal.returns
returns c = holds_of_all (IsOffBounds c.args.bounds) _ c.args.built.now c.loop-cell.cell-index c.cells-cell-items.ensures.order c.loop-cell-test.false c.loop-cell.invariant
