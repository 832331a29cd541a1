use Rattle.recipe_hit.proofs.OneRefusal.{one_hand_refusal}
use Rattle.recipe_hit.proofs.laws.hands_have_one_refusal.Goals as goal

pub returns : goal.returns
returns c = one_hand_refusal
