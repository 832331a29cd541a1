use Rattle.recipe_hit.proofs.OneRefusal.{no_hit_refusal}
use Rattle.recipe_hit.proofs.laws.hits_have_no_refusal.Goals as goal

pub returns : goal.returns
returns c = no_hit_refusal
