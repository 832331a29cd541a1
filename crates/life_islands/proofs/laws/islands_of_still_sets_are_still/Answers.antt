use Rattle.life_islands.specs.IslandLaws.{island_still}
use Rattle.life_islands.proofs.laws.islands_of_still_sets_are_still.Goals as goal

pub returns : goal.returns
returns c = island_still
