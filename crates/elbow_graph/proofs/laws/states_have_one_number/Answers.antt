use Rattle.elbow_graph.specs.StateLaws.{one_number}
use Rattle.elbow_graph.proofs.laws.states_have_one_number.Goals as goal

pub returns : goal.returns
returns c = λ turns start span limit other a b. one_number _ _ limit other a b
