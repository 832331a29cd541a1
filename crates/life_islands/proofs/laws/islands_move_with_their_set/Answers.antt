use Rattle.life_islands.specs.MovedIslandLaws.{islands_move}
use Rattle.life_islands.proofs.laws.islands_move_with_their_set.Goals as goal

pub returns : goal.returns
returns c = islands_move
