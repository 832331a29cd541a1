use Rattle.find_salvo.specs.OutcomeLaws.{one_salvo_outcome}
use Rattle.find_salvo.proofs.laws.lanes_have_one_outcome.Goals as goal

pub returns : goal.returns
returns c = one_salvo_outcome
