use Rattle.breadth_search.proofs.Same.{place_found}
use Rattle.breadth_search.proofs.found.Found.place_of.Goals as goal

pub returns-clause-some : goal.returns-clause-some
returns-clause-some g c = place_found g.S.PartialEq.eq g.met.S.Key.same _ _ _ c.get_index_of.ensures.index
