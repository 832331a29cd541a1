use Rattle.recipe_hit.proofs.OneSalvo.{no_salvo_refusal}
use Rattle.recipe_hit.proofs.laws.sound_salvos_have_no_refusal.Goals as goal

pub returns : goal.returns
returns c = no_salvo_refusal
