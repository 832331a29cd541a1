use Rattle.plan_facts.specs.LaneLaws.{one_lane}
use Rattle.plan_facts.proofs.streams_are_one_lane.Goals as goal

pub returns : goal.returns
returns c = one_lane
