use Rattle.life_target.proofs.OneRefusal.{no_refusal}
use Rattle.life_target.proofs.laws.targets_have_no_refusal.Goals as goal

pub returns : goal.returns
returns c = no_refusal c.sets_have_one_list_of_islands.ensures
