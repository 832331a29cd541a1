use Rattle.find_salvo.specs.OutcomeLaws.{one_outcome}
use Rattle.find_salvo.proofs.laws.what_is_left_has_one_outcome.Goals as goal

pub returns : goal.returns
returns c = one_outcome
