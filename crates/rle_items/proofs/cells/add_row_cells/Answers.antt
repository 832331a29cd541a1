use Rattle.std.proofs.Common.{rules, ◌∙◌}
use Rattle.rle_items.specs.DrawnLaws.{row_push}
use Rattle.rle_items.proofs.cells.add_row_cells.Goals as goal

pub loop-step-preserved : goal.loop-step-preserved
loop-step-preserved c = c.in_ok-push.ensures.items ∙ row_push c.loop-step.cells.items c.args.cells.now.items c.args.first c.loop-step.step c.new.result c.loop-step.invariant (search rules)
