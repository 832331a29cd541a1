use Rattle.life_islands.specs.IslandLaws.{one_list}
use Rattle.life_islands.proofs.laws.sets_have_one_list_of_islands.Goals as goal

pub returns : goal.returns
returns c = one_list
