use Rattle.std.proofs.Common.{ℕ, Vec, Global}
use Rattle.std.proofs.lemmas.Result.{IfOk-weaker}
use Rattle.breadth_search.proofs.Kept.{labelling_seen, least_seen}
use Rattle.breadth_search.proofs.labelling.Labelling.list_to.Goals as goal

pub returns-clause-labelling : goal.returns-clause-labelling
returns-clause-labelling g c = labelling_seen g.G.Graph.leads g.S.PartialEq.eq g.met.S.Eq.laws.refl _ _ _ _ _ _ c.self.invariant _ c.self.view_is

pub returns-clause-least : goal.returns-clause-least
returns-clause-least g c =
    IfOk-weaker _ _ _ (λ (list : Vec ℕ Global) by_labels. least_seen g.G.Graph.leads g.S.PartialEq.eq g.met.S.Eq.laws.refl _ _ _ _ _ _ c.self.invariant _ c.self.view_is _ c.requires list.items by_labels) c.list_to.ensures
