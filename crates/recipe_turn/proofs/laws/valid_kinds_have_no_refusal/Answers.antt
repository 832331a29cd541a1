use Rattle.recipe_turn.proofs.OneRefusal.{no_kinds_refusal}
use Rattle.recipe_turn.proofs.laws.valid_kinds_have_no_refusal.Goals as goal

pub returns : goal.returns
returns c = no_kinds_refusal
