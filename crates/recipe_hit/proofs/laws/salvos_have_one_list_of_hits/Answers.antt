use Rattle.recipe_hit.specs.OneHitLaws.{one_list}
use Rattle.recipe_hit.proofs.laws.salvos_have_one_list_of_hits.Goals as goal

pub returns : goal.returns
returns c = one_list
