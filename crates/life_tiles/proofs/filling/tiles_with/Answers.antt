use Rattle.std.proofs.Common.{pos, ◌∙◌}
use Rattle.life_cells.specs.Cells.{cell}
use Rattle.life_tiles.proofs.Added.{no_cell, one_more_cell, listed_in_range}
use Rattle.life_tiles.proofs.Settled.{fresh_none, settled_fresh}
use Rattle.life_tiles.proofs.filling.tiles_with.Goals as goal

pub loop-cell-init : goal.loop-cell-init
loop-cell-init c = (c.in_ok-tiles.ensures.tiled, fresh_none _ c.in_ok-tiles.ensures.none, c.in_ok-tiles.ensures.recent, no_cell _ c.in_ok-tiles.ensures.tiled c.in_ok-tiles.ensures.none)

pub add_cell-requires-clause-range : goal.add_cell-requires-clause-range
add_cell-requires-clause-range c = listed_in_range c.args.cells.now c.loop-cell.cell-index (cell (pos 0) (pos 0)) c.loop-cell-test.true c.requires

pub loop-cell-preserved : goal.loop-cell-preserved
loop-cell-preserved c =
    (c.add_cell.ensures.tiled, c.add_cell.ensures.fresh c.loop-cell.invariant.1, c.add_cell.ensures.recent ∙ c.loop-cell.invariant.2, one_more_cell _ _ c.args.cells.now c.loop-cell.cell-index (cell (pos 0) (pos 0)) c.loop-cell-test.true c.loop-cell.invariant.3 c.in_ok-add_cell.ensures.added)

pub returns-clause-settled : goal.returns-clause-settled
returns-clause-settled c = settled_fresh _ c.loop-cell.invariant.2 c.loop-cell.invariant.1
