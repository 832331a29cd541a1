use Rattle.lane_clear.specs.ClearLaws.{clear_stays_apart}
use Rattle.lane_clear.proofs.laws.clear_hits_stay_apart.Goals as goal

pub returns : goal.returns
returns c = clear_stays_apart
