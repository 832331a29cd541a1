use Rattle.std.proofs.Common.{◌≡◌, ◌++◌}
use Rattle.life_tiles.specs.Tiling.{tile_cells}
use Rattle.life_tiles.proofs.reading.push_tile.Given as goal

abbrev pub invariant-rows : goal.invariant-rows
invariant-rows l = l.cells.items ≡ l.initial.cells.items ++ tile_cells l.place l.rows l.first l.down
