use Rattle.life_cone.proofs.Spans.{spans_test}
use Rattle.life_cone.proofs.boxes.spans_apart.Goals as goal

pub returns : goal.returns
returns c = spans_test c.args.a c.args.b _ _ _ _ c.is_empty.ensures c.is_empty-2.ensures c.is_well_before.ensures c.is_well_before-2.ensures
