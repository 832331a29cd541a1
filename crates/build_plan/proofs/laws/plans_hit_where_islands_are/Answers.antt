use Rattle.build_plan.proofs.HitsForIslands.{hits_for_islands}
use Rattle.build_plan.proofs.laws.plans_hit_where_islands_are.Goals as goal

pub returns : goal.returns
returns c = hits_for_islands
