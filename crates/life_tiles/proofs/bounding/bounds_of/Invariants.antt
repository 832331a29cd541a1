use Rattle.life_cells.specs.Listed.{listed}
use Rattle.life_cells.specs.Boxes.{IsBoxOf}
use Rattle.life_tiles.specs.Tiling.{list_cells}
use Rattle.life_tiles.proofs.bounding.bounds_of.Given as goal

abbrev pub invariant-tiles : goal.invariant-tiles
invariant-tiles l = IsBoxOf l.found (listed (list_cells l.tiles.places.keys l.tiles.rows.items l.index))
