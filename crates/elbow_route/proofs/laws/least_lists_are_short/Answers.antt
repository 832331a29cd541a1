use Rattle.elbow_route.specs.ShortnessLaws.{least_route_is_short}
use Rattle.elbow_route.proofs.laws.least_lists_are_short.Goals as goal

pub returns : goal.returns
returns c = least_route_is_short
