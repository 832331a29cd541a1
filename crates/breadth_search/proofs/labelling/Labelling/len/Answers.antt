use Rattle.breadth_search.proofs.Kept.{labelling_seen}
use Rattle.breadth_search.proofs.labelling.Labelling.len.Goals as goal

pub returns-clause-labelling : goal.returns-clause-labelling
returns-clause-labelling g c = labelling_seen g.G.Graph.leads g.S.PartialEq.eq g.met.S.Eq.laws.refl _ _ _ _ _ _ c.self.invariant _ c.self.view_is
