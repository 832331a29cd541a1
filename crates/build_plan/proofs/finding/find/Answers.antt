use Rattle.build_plan.proofs.FirstIsland.{cells_far, not_empty, begins}
use Rattle.build_plan.proofs.finding.find.Goals as goal

pub shape_of-requires-clause-some : goal.shape_of-requires-clause-some
shape_of-requires-clause-some c = not_empty c.args.left.now c.requires.left c.index-left-0.result

pub shape_of-requires-clause-range : goal.shape_of-requires-clause-range
shape_of-requires-clause-range c = cells_far c.args.left.now c.requires.left c.index-left-0.result

pub first_usable-requires : goal.first_usable-requires
first_usable-requires c = begins _ c.requires.planner c.in_ok-ways.ensures c.requires.hand c.requires.left c.index-left-0.result c.in_ok-shape.ensures
