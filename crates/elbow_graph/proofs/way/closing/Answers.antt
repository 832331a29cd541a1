use Rattle.elbow_graph.proofs.LastTurns.{none_closes, first_closes}
use Rattle.elbow_graph.proofs.Tabling.{least_of}
use Rattle.elbow_graph.proofs.way.closing.Goals as goal

pub returns-in-Some : goal.returns-in-Some
returns-in-Some c = λ span. first_closes _ span _ _ _ c.in-Some.is (least_of _ _ _ _ _ _ _ c.places.ensures.places c.at_kind.ensures c.first.ensures)

pub returns-in-None : goal.returns-in-None
returns-in-None c = λ span. none_closes _ span _ _ c.in-None.is (least_of _ _ _ _ _ _ _ c.places.ensures.places c.at_kind.ensures c.first.ensures)
