use Rattle.recipe_hit.proofs.OneRefusal.{one_hit_refusal}
use Rattle.recipe_hit.proofs.laws.hits_have_one_refusal.Goals as goal

pub returns : goal.returns
returns c = one_hit_refusal
