use Rattle.std.proofs.Common.{◌∙◌, sym}
use Rattle.elbow_graph.proofs.Tabling.{least_seen}
use Rattle.elbow_graph.proofs.places.Places.first.Goals as goal

pub returns : goal.returns
returns c = least_seen _ _ _ _ _ _ _ c.self.view_is (sym c.get.ensures.value ∙ sym c.copied.ensures) (c.self.invariant.first c.args.key)
