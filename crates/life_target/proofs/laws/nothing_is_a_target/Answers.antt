use Rattle.life_target.proofs.NoCells.{nothing_is_target}
use Rattle.life_target.proofs.laws.nothing_is_a_target.Goals as goal

pub returns : goal.returns
returns c = nothing_is_target
