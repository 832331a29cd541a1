-- What is seen of a pattern in tiles: its live cells, and for how many tiles there is memory.
use Rattle.std.specs.Prelude.{ℕ, map, refl}
use Rattle.std.specs.Coded.{Coded, code_by, coded×, coded_ℕ}
use Rattle.std.specs.Set.{distinct_count}
use Rattle.life_cells.specs.declared.cell.Cell.{Cell}
use Rattle.life_cells.specs.Cells.{Cells, coded_cells, in_order}
use Rattle.life_kernel.specs.Words.{part}
use Rattle.life_tiles.specs.declared.place.Place.{Place}
use Rattle.life_tiles.specs.Tiling.{place, same_place}

-- live cells, and the number of spare tiles: there is memory for so many
pub record TiledCells : Type 0 where
  pub cells : Cells
  pub spare : ℕ

abbrev pub coded_tiled_cells : Coded TiledCells
coded_tiled_cells = code_by (Cells × ℕ) (coded× coded_cells coded_ℕ) (λ v. (v.cells, v.spare)) (λ p. record { cells = p.0; spare = p.1 }) (λ _. refl)

-- the place of the tile in which a cell lies
abbrev pub tile_of : Cell → Place
tile_of c = place (part c.x) (part c.y)

-- how many tiles have live cells
unfoldable pub tile_count : Cells → ℕ
tile_count s = distinct_count same_place (map tile_of (in_order s))
