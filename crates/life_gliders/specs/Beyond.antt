-- What lies in front of the wall, and what comes first in it.
use Rattle.std.specs.Prelude.{◌≡◌, true, ◌&&◌, int_le, ℤ, pos, ◌+ℤ◌, ◌-ℤ◌}
use Rattle.std.specs.declared.cmp.Ordering.TheVariants.{Less}
use Rattle.life_plane.specs.Plane.{Plane}
use Rattle.life_cells.specs.declared.cell.Cell.{Cell}
use Rattle.life_cells.specs.Cells.{cell, cell_cmp}

-- the cells with u = x - y at least five more than the wall
abbrev pub beyond : ℤ → Plane → Plane
beyond wall s x y = s x y && int_le (wall +ℤ pos 5) (x -ℤ y)

-- the cell lives, and none before it in the order by y, then by x
pub record IsFirstLive (c : Cell) (s : Plane) : Type 0 where
  pub lives : s c.x c.y ≡ true
  pub none_before : (x y : ℤ) → s x y ≡ true → cell_cmp (cell x y) c ≡ Less → ⊥

-- each cell of the one plane is one of the other
pub record IsPartOf (s t : Plane) : Type 0 where
  pub each : (x y : ℤ) → s x y ≡ true → t x y ≡ true
