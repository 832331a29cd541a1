use Rattle.life_cone.proofs.Spans.{boxes_test, far_apart}
use Rattle.life_cone.proofs.boxes.box_apart.Goals as goal

pub returns-clause-exact : goal.returns-clause-exact
returns-clause-exact c = boxes_test c.args.a c.args.b _ _ _ _ _ _ c.columns.ensures c.columns-2.ensures c.rows.ensures c.rows-2.ensures c.spans_apart-columns_apart.ensures c.spans_apart-rows_apart.ensures

pub returns-clause-apart : goal.returns-clause-apart
returns-clause-apart c h s t hs ht =
    let exact = boxes_test c.args.a c.args.b _ _ _ _ _ _ c.columns.ensures c.columns-2.ensures c.rows.ensures c.rows-2.ensures c.spans_apart-columns_apart.ensures c.spans_apart-rows_apart.ensures in
    far_apart c.args.a c.args.b s t (exact.0 h) hs ht
