use Rattle.recipe_hit.proofs.OneSalvo.{one_salvo_refusal}
use Rattle.recipe_hit.proofs.laws.salvos_have_one_refusal.Goals as goal

pub returns : goal.returns
returns c = one_salvo_refusal
