use Rattle.std.proofs.Common.{subst, sym}
use Rattle.life_cells.specs.Cells.{alive}
use Rattle.life_islands.specs.Shapes.{IsShapeOf}
use Rattle.life_islands.proofs.Cornering.{corner_small, corner_top_left, negated_fits, moves_back, shape_found}
use Rattle.life_islands.proofs.shaping.shape_of.Goals as goal

pub overflow_sub-corner : goal.overflow_sub-corner
overflow_sub-corner c =
    let small = corner_small (alive c.args.cells.now) c.in-Some.bounds c.new-corner.result c.requires.range c.in-Some.ensures.some c.new-corner.ensures in
    negated_fits c.new-corner.result.x small.x_low small.x_high

pub overflow_sub-corner-2 : goal.overflow_sub-corner-2
overflow_sub-corner-2 c =
    let small = corner_small (alive c.args.cells.now) c.in-Some.bounds c.new-corner.result c.requires.range c.in-Some.ensures.some c.new-corner.ensures in
    negated_fits c.new-corner.result.y small.y_low small.y_high

pub shift-requires : goal.shift-requires
shift-requires c =
    let small = corner_small (alive c.args.cells.now) c.in-Some.bounds c.new-corner.result c.requires.range c.in-Some.ensures.some c.new-corner.ensures in
    moves_back (alive c.args.cells.now) c.new-corner.result c.requires.range small

pub from_cells-requires : goal.from_cells-requires
from_cells-requires c =
    let small = corner_small (alive c.args.cells.now) c.in-Some.bounds c.new-corner.result c.requires.range c.in-Some.ensures.some c.new-corner.ensures in
    let top_left = corner_top_left (alive c.args.cells.now) c.in-Some.bounds c.new-corner.result c.requires.range c.in-Some.ensures.some c.new-corner.ensures in
    (shape_found (alive c.args.cells.now) (alive c.in_ok-moved.moved) c.new-corner.result small top_left c.in_ok-moved.ensures).is_shape

pub returns : goal.returns
returns c =
    let small = corner_small (alive c.args.cells.now) c.in-Some.bounds c.new-corner.result c.requires.range c.in-Some.ensures.some c.new-corner.ensures in
    let top_left = corner_top_left (alive c.args.cells.now) c.in-Some.bounds c.new-corner.result c.requires.range c.in-Some.ensures.some c.new-corner.ensures in
    let found = shape_found (alive c.args.cells.now) (alive c.in_ok-moved.moved) c.new-corner.result small top_left c.in_ok-moved.ensures in
    subst (λ shape. IsShapeOf (alive c.args.cells.now) (alive shape) c.new-corner.result) (sym c.from_cells.ensures) found
