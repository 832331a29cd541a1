use Rattle.breadth_search.proofs.Kept.{whole_seen}
use Rattle.breadth_search.proofs.labelling.Labelling.is_whole.Goals as goal

pub returns-clause-whole : goal.returns-clause-whole
returns-clause-whole g c = whole_seen g.G.Graph.leads g.S.PartialEq.eq g.met.S.Eq.laws.refl _ _ _ _ _ _ c.self.invariant _ c.self.view_is _ c.len.ensures.len
