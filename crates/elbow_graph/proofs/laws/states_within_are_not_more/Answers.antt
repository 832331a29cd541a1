use Rattle.elbow_graph.specs.StateLaws.{not_more}
use Rattle.elbow_graph.proofs.laws.states_within_are_not_more.Goals as goal

pub returns : goal.returns
returns c = λ turns start span limit n. not_more _ _ limit n
