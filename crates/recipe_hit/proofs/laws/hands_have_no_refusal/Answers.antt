use Rattle.recipe_hit.proofs.OneRefusal.{no_hand_refusal}
use Rattle.recipe_hit.proofs.laws.hands_have_no_refusal.Goals as goal

pub returns : goal.returns
returns c = no_hand_refusal
