use Rattle.lane_clear.proofs.Kept.{off_test}
use Rattle.lane_clear.proofs.built_set.BuiltSet.is_off.Goals as goal

pub returns-then-has_cells : goal.returns-then-has_cells
returns-then-has_cells c =
    off_test c.is_bare.result c.args.bounds c.grown.result _ c.self.inside.cells c.args.self.now c.grown.ensures c.cells.ensures.order c.self.view_is (c.has_cells.ensures.0 c.if-has_cells.true) c.is_bare.ensures
