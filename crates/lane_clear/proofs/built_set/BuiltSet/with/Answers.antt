use Rattle.lane_clear.proofs.Kept.{listed_in_range, more_kept}
use Rattle.lane_clear.proofs.built_set.BuiltSet.with.Goals as goal

pub add_cells-requires : goal.add_cells-requires
add_cells-requires c = listed_in_range _ c.args.island.now c.cells.ensures.order c.requires

pub invariant_of-result : goal.invariant_of-result
invariant_of-result c =
    more_kept c.self.inside.cells c.in_ok-cells.cells c.args.island.now _ c.self.inside.barriers c.add_cells.new.barriers c.cells.ensures.order c.in_ok-cells.ensures c.self.invariant c.requires c.in_ok-add_cells.ensures
