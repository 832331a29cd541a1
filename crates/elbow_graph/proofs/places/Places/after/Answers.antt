use Rattle.std.proofs.Common.{◌∙◌, sym, arith}
use Rattle.std.proofs.lemmas.List.{get_or_default}
use Rattle.elbow_graph.proofs.Tabling.{least_seen, keyed_seen, length_seen}
use Rattle.elbow_graph.proofs.places.Places.after.Goals as goal

pub returns : goal.returns
returns c = λ key keyed.
    let many = c.self.invariant.as_many in
    let seen = length_seen _ _ _ c.self.view_is in
    let within = c.requires in
    least_seen _ _ _ key _ _ _ c.self.view_is (get_or_default c.self.inside.nexts.items c.args.place _ _ (omega arith) ∙ sym c.index.ensures)
    (c.self.invariant.next c.args.place key (omega arith) (keyed_seen _ _ _ key _ c.self.view_is keyed))
