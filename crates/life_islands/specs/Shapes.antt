-- Shapes: sets of cells whatever their place.
use Rattle.std.specs.Prelude.{◌≡◌, pos}
use Rattle.life_cells.specs.Boxes.{IsLeastBox}
use Rattle.life_cells.specs.Cells.{cell}
use Rattle.life_cells.specs.declared.bounds.Bounds.{Bounds}
use Rattle.life_cells.specs.declared.cell.Cell.{Cell}
use Rattle.life_plane.specs.Plane.{Plane, shift}

-- the top left of the least box that holds the plane, which lives
pub record IsTopLeft (corner : Cell) (s : Plane) : Type 0 where
  pub box : Bounds
  pub least : IsLeastBox box s
  pub left : box.left ≡ corner.x
  pub top : box.top ≡ corner.y

-- it lives, and its least box has its top left at (0,0)
abbrev pub IsShape : Plane → Type 0
IsShape s = IsTopLeft (cell (pos 0) (pos 0)) s

-- a plane is a shape moved to the top left of its own least box
pub record IsShapeOf (s shape : Plane) (corner : Cell) : Type 0 where
  pub is_shape : IsShape shape
  pub top_left : IsTopLeft corner s
  pub moved : s ≡ shift corner.x corner.y shape
