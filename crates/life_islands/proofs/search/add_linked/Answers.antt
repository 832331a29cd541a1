use Rattle.std.proofs.Common.{refl}
use Rattle.life_islands.proofs.Linking.{rows_begin, rows_more, rows_end}
use Rattle.life_islands.proofs.search.add_linked.Goals as goal

pub loop-dy-init : goal.loop-dy-init
loop-dy-init c = rows_begin _ _ _

pub loop-dy-preserved : goal.loop-dy-preserved
loop-dy-preserved c = rows_more c.args.cells.now _ _ _ _ _ _ _ c.loop-dy.invariant c.loop-dy-test.true refl c.close_in_row.ensures c.in_ok-add_all.ensures

pub returns : goal.returns
returns c = rows_end _ _ _ _ _ c.loop-dy.invariant c.loop-dy-test.false
