use Rattle.recipe_turn.proofs.OneRefusal.{no_turn_refusal}
use Rattle.recipe_turn.proofs.laws.sound_turns_have_no_refusal.Goals as goal

pub returns : goal.returns
returns c = no_turn_refusal
