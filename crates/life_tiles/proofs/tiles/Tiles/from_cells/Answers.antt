use Rattle.life_tiles.proofs.Evolved.{begins_with}
use Rattle.life_cells.specs.BoxLaws.{range_of_list}
use Rattle.life_tiles.proofs.tiles.Tiles.from_cells.Goals as goal

pub tiles_with-requires : goal.tiles_with-requires
tiles_with-requires c = range_of_list _ _ _ c.cells.ensures.order c.requires

pub returns : goal.returns
returns c = begins_with _ _ _ c.in_ok-tiles.ensures.tiled c.in_ok-tiles.ensures.cells c.cells.ensures.order
