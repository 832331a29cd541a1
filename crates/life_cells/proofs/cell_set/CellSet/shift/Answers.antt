use Rattle.std.proofs.Common.{w64}
use Rattle.std.proofs.lemmas.Int.{to_z-of_z}
use Rattle.life_cells.proofs.Around.{fits_moved, rising_shift, alive_shift}
use Rattle.life_cells.proofs.cell_set.CellSet.shift.Goals as goal

pub push_moved-requires : goal.push_moved-requires
push_moved-requires c = fits_moved c.args.dx c.args.dy _ _ _ _ (to_z-of_z w64 c.args.dx c.ranges.dx) (to_z-of_z w64 c.args.dy c.ranges.dy) c.cells.ensures.order c.requires

pub invariant_of-result : goal.invariant_of-result
invariant_of-result c = rising_shift _ _ _ _ _ c.new-cells.ensures.items c.in_ok-push_moved.ensures c.cells.ensures.rising

pub returns : goal.returns
returns c =
    alive_shift c.args.dx c.args.dy _ _ _ _ _ _ (to_z-of_z w64 c.args.dx c.ranges.dx) (to_z-of_z w64 c.args.dy c.ranges.dy) c.new-cells.ensures.items c.in_ok-push_moved.ensures c.cells.ensures.order
