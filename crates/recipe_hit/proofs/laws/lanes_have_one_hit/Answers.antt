use Rattle.recipe_hit.specs.OneHitLaws.{one_hit}
use Rattle.recipe_hit.proofs.laws.lanes_have_one_hit.Goals as goal

pub returns : goal.returns
returns c = one_hit
