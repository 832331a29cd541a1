use Rattle.find_turn.proofs.OneTurn.{one_least_turn}
use Rattle.find_turn.proofs.laws.one_turn_is_the_least.Goals as goal

pub returns : goal.returns
returns c settings kinds kind delays a b proper valid h g = one_least_turn settings kinds proper valid kind delays a b h g
