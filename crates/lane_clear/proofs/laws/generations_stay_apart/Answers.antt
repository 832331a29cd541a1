use Rattle.lane_clear.specs.ClearLaws.{generations_stay_apart}
use Rattle.lane_clear.proofs.laws.generations_stay_apart.Goals as goal

pub returns : goal.returns
returns c = generations_stay_apart
