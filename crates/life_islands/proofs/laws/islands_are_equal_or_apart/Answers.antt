use Rattle.life_islands.specs.IslandLaws.{same_or_apart}
use Rattle.life_islands.proofs.laws.islands_are_equal_or_apart.Goals as goal

pub returns : goal.returns
returns c = same_or_apart
