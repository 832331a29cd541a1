-- Where two planes differ.
use Rattle.std.specs.Prelude.{◌≡◌, ◌≢◌}
use Rattle.std.specs.declared.cmp.Ordering.TheVariants.{Less}
use Rattle.life_cells.specs.declared.cell.Cell.{Cell}
use Rattle.life_cells.specs.Cells.{cell_cmp}
use Rattle.life_plane.specs.Plane.{Plane}

-- the cell lives in just one of the two, and no cell before it does
pub record IsFirstDifference (c : Cell) (s t : Plane) : Type 0 where
  pub differs : s c.x c.y ≢ t c.x c.y
  pub same_before : (d : Cell) → cell_cmp d c ≡ Less → s d.x d.y ≡ t d.x d.y
