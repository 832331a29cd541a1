use Rattle.std.proofs.Common.{◌≡◌}
use Rattle.life_tiles.specs.Tiling.{list_cells}
use Rattle.life_tiles.proofs.reading.live_cells.Given as goal

abbrev pub invariant-tiles : goal.invariant-tiles
invariant-tiles l = l.cells.items ≡ list_cells l.tiles.places.keys l.tiles.rows.items l.index
