use Rattle.std.specs.Prelude.{pos}
use Rattle.life_cells.specs.Cells.{cell}
use Rattle.life_cells.proofs.Boxing.{least_of_more, union_more}
use Rattle.life_cells.proofs.bounding.widened.Goals as goal

pub loop-cell-preserved : goal.loop-cell-preserved
loop-cell-preserved c = λ s h. rw (c.with-bounds.ensures, union_more s c.args.cells.now c.loop-cell.cell-index (cell (pos 0) (pos 0)) c.loop-cell-test.true) (least_of_more _ _ _ (c.loop-cell.invariant s h))
