use Rattle.recipe_turn.proofs.OneRefusal.{one_turn_refusal}
use Rattle.recipe_turn.proofs.laws.turns_have_one_refusal.Goals as goal

pub returns : goal.returns
returns c = one_turn_refusal
