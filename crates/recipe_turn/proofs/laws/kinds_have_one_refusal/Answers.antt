use Rattle.recipe_turn.proofs.OneRefusal.{one_kinds_refusal}
use Rattle.recipe_turn.proofs.laws.kinds_have_one_refusal.Goals as goal

pub returns : goal.returns
returns c = one_kinds_refusal
