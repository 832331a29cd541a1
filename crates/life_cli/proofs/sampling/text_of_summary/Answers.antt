use Rattle.std.proofs.Common.{subst, arith}
use Rattle.life_plane.specs.Plane.{Plane}
use Rattle.build_plan.specs.Plan.{IsPlan}
use Rattle.life_cli.specs.Stages.{HasCause}
use Rattle.life_cli.specs.Compiled.{PlanRefuses}
use Rattle.life_cli.specs.Sampled.{IsSummedUp}
use Rattle.life_cli.proofs.StageLaws.{hands_on, behind, answered}
use Rattle.life_cli.proofs.sampling.text_of_summary.Goals as goal

pub returns-in_err-plan : goal.returns-in_err-plan
returns-in_err-plan c = λ count.
    hands_on c.from_residual.result _ c.from_residual.ensures.1 (λ f. f) (subst (λ (s : Plane). HasCause ⊥ (PlanRefuses c.args.book.now s) c.in_err-plan.field-0.0) c.requires c.in_err-plan.ensures.err) (omega arith)

pub returns : goal.returns
returns c = λ count.
    let book = c.args.book.now in
    let is = subst (λ (s : Plane). IsPlan book s c.in_ok-plan.plan) c.requires c.in_ok-plan.ensures.ok in
    behind {mid = count} tt (λ f. f) (c.in_ok-plan.plan, is) (answered 0 (IsSummedUp c.args.count book) ⊥ count count c.in_ok-text.text c.in_ok-text.ensures (omega arith)) (omega arith)
