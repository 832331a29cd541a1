use Rattle.lane_clear.specs.MovedFrameLaws.{hit_at}
use Rattle.lane_clear.proofs.laws.hits_move_with_the_hand.Goals as goal

pub returns : goal.returns
returns c = hit_at
