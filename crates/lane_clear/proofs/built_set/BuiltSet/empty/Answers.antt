use Rattle.lane_clear.proofs.Kept.{none_kept}
use Rattle.lane_clear.proofs.built_set.BuiltSet.empty.Goals as goal

pub invariant_of-result : goal.invariant_of-result
invariant_of-result c = none_kept c.empty.result c.new.result c.empty.ensures c.new.ensures.empty
