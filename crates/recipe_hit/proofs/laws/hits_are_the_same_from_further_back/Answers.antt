use Rattle.recipe_hit.proofs.Earlier.{same_from_further_back}
use Rattle.recipe_hit.proofs.laws.hits_are_the_same_from_further_back.Goals as goal

pub returns : goal.returns
returns c = same_from_further_back
