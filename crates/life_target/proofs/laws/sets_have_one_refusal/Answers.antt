use Rattle.life_target.proofs.OneRefusal.{one_refusal}
use Rattle.life_target.proofs.laws.sets_have_one_refusal.Goals as goal

pub returns : goal.returns
returns c = one_refusal c.sets_have_one_list_of_islands.ensures
