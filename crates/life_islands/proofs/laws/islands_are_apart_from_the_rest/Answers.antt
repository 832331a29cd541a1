use Rattle.life_islands.specs.IslandLaws.{island_apart}
use Rattle.life_islands.proofs.laws.islands_are_apart_from_the_rest.Goals as goal

pub returns : goal.returns
returns c = island_apart
