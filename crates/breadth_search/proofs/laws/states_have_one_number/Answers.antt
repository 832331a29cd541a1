use Rattle.breadth_search.specs.StateLaws.{one_number}
use Rattle.breadth_search.proofs.laws.states_have_one_number.Goals as goal

pub returns : goal.returns
returns g c = λ graph from limit other a b. one_number _ g.met.S.Eq.laws g.met.S.Key.same _ from limit other a b
