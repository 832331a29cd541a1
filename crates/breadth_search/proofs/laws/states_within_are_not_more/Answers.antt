use Rattle.breadth_search.specs.StateLaws.{not_more}
use Rattle.breadth_search.proofs.laws.states_within_are_not_more.Goals as goal

pub returns : goal.returns
returns g c = λ graph from limit n. not_more _ g.met.S.Eq.laws g.met.S.Key.same _ from limit n
