use Rattle.build_plan.proofs.Builds.{plan_constructs}
use Rattle.build_plan.proofs.laws.plans_construct.Goals as goal

pub returns : goal.returns
returns c = plan_constructs
