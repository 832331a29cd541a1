use Rattle.std.proofs.Common.{arith}
use Rattle.std.proofs.lemmas.Option.{slice_get-get_or}
use Rattle.life_islands.proofs.Adding.{adds_begin, adds_more, adds_end}
use Rattle.life_islands.proofs.search.add_all.Goals as goal

pub loop-cell-init : goal.loop-cell-init
loop-cell-init c = adds_begin _ _

pub loop-cell-preserved : goal.loop-cell-preserved
loop-cell-preserved c = adds_more _ _ _ _ _ _ c.loop-cell.invariant (slice_get-get_or c.args.cells.now c.loop-cell.cell-index _ c.loop-cell-test.true) c.in_ok-insert.ensures.keys

pub returns : goal.returns
returns c = adds_end _ _ _ _ c.loop-cell.invariant (omega arith)
