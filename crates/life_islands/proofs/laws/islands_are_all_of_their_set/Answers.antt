use Rattle.life_islands.specs.IslandLaws.{islands_are_all}
use Rattle.life_islands.proofs.laws.islands_are_all_of_their_set.Goals as goal

pub returns : goal.returns
returns c = islands_are_all
