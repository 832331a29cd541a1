use Rattle.std.proofs.Common.{arith}
use Rattle.std.proofs.lemmas.Int.{ints}
use Rattle.elbow_graph.proofs.LastTurns.{counted, more_counted, not_a_route}
use Rattle.elbow_graph.proofs.states.elbow_states.Goals as goal

pub returns-in-Nowhere-clause-some : goal.returns-in-Nowhere-clause-some
returns-in-Nowhere-clause-some c = counted _ _ _ _ _ _ _ _ c.in-Nowhere.is c.in_ok-graph.ensures (omega (arith, ints)) c.in_ok-count.ensures

pub returns-in-More-clause-none : goal.returns-in-More-clause-none
returns-in-More-clause-none c = more_counted _ _ _ _ _ _ _ c.in-More.is c.in_ok-graph.ensures (omega (arith, ints)) c.in_ok-count.ensures

pub returns-clause-none : goal.returns-clause-none
returns-clause-none c = absurd (not_a_route _ _ _ _ _ _ c.in-Route.is c.in_ok-count.ensures)
