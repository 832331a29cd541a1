use Rattle.build_plan.specs.Drafts.{IsDraftTo}
use Rattle.build_plan.proofs.planning.build_all.Given as goal

abbrev pub invariant-loop-place : goal.invariant-loop-place
invariant-loop-place l = IsDraftTo l.planner.book.now l.planner.placing.room l.islands l.place l.draft
