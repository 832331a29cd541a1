use Rattle.elbow_route.specs.SpanLaws.{leaves_in_span}
use Rattle.elbow_route.proofs.laws.serving_lists_stay_in_span.Goals as goal

pub returns : goal.returns
returns c = leaves_in_span
