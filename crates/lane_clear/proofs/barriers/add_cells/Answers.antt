use Rattle.std.proofs.Common.{◌∙◌, pos, get_or, ap, sym}
use Rattle.life_cells.specs.Cells.{cell}
use Rattle.lane_clear.specs.Frames.{farthest}
use Rattle.lane_clear.specs.Barriers.{with_cell}
use Rattle.lane_clear.proofs.Barred.{with_one_more, item_in_range}
use Rattle.lane_clear.proofs.barriers.add_cells.Goals as goal

pub add_cell-requires : goal.add_cell-requires
add_cell-requires c = item_in_range farthest c.args.cells.now c.loop-cell.cell-index _ c.requires c.loop-cell-test.true

pub loop-cell-preserved : goal.loop-cell-preserved
loop-cell-preserved c = λ lane.
    c.in_ok-add_cell.ensures lane
    ∙ ap (λ o. with_cell lane o (get_or c.args.cells.now c.loop-cell.cell-index (cell (pos 0) (pos 0)))) (c.loop-cell.invariant lane)
    ∙ sym (with_one_more lane _ c.args.cells.now c.loop-cell.cell-index (cell (pos 0) (pos 0)) c.loop-cell-test.true)
