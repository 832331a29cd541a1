use Rattle.build_plan.proofs.Drafting.{built_none}
use Rattle.build_plan.proofs.planning.build_all.Goals as goal

pub loop-place-init : goal.loop-place-init
loop-place-init c = built_none c.args.planner.now.book.now c.args.planner.now.placing.room c.args.islands.now c.start-draft.result c.start-draft.ensures
