use Rattle.lane_clear.proofs.Kept.{those_alone}
use Rattle.lane_clear.proofs.built_set.BuiltSet.of.Goals as goal

pub returns : goal.returns
returns c = those_alone c.with.result c.empty.result c.args.cells.now c.empty.ensures c.with.ensures
