-- Boxes in which nothing lives, looked at row by row.
use Rattle.std.specs.Prelude.{◌≡◌, ◌⊎◌, true, ℤ, pos, ◌+ℤ◌, ◌-ℤ◌, ◌≤ℤ◌, ◌<ℤ◌, List}
use Rattle.life_plane.specs.Plane.{Plane}
use Rattle.life_plane.specs.Strips.{Each}
use Rattle.life_cells.specs.Boxes.{InBox}
use Rattle.life_cells.specs.Listed.{listed}
use Rattle.life_cells.specs.declared.cell.Cell.{Cell}
use Rattle.life_cells.specs.declared.bounds.Bounds.{Bounds}

-- the cell isn't in the box
abbrev pub IsOutside : Bounds → ℤ → ℤ → Type 0
IsOutside bounds x y = InBox bounds x y → ⊥

-- no cell of the plane is in the box
abbrev pub IsBare : Bounds → Plane → Type 0
IsBare bounds s = Each (IsOutside bounds) s

-- a cell that comes before the left of a row
abbrev pub IsBefore : ℤ → ℤ → ℤ → ℤ → Type 0
IsBefore left row x y = (y <ℤ row) ⊎ ((y ≡ row) × (x <ℤ left))

-- one that is this cell or comes after it
abbrev pub IsFrom : Cell → ℤ → ℤ → Type 0
IsFrom c x y = (c.y <ℤ y) ⊎ ((c.y ≡ y) × (c.x ≤ℤ x))

-- a cell is the next one of a list from the left of a row on
pub record IsNext (cs : List Cell) (left row : ℤ) (c : Cell) : Type 0 where
  pub lives : listed cs c.x c.y ≡ true
  pub reached : (row <ℤ c.y) ⊎ ((row ≡ c.y) × (left ≤ℤ c.x))
  pub others : Each (λ x y. IsBefore left row x y ⊎ IsFrom c x y) (listed cs)

-- the row to look at after a cell that isn't in the box: the cell's own, or the one below it where the cell is right of the box
pub record IsRowAfter (bounds : Bounds) (c : Cell) (row : ℤ) : Type 0 where
  pub is : ((bounds.right <ℤ c.x) × (row ≡ c.y +ℤ pos 1)) ⊎ ((c.x ≤ℤ bounds.right) × (row ≡ c.y))

-- the bounds have a cell
pub record HasCells (bounds : Bounds) : Type 0 where
  pub columns : bounds.left ≤ℤ bounds.right
  pub rows : bounds.top ≤ℤ bounds.bottom

-- bounds with the cells within distance 2 of theirs
abbrev pub grown : Bounds → Bounds
grown b = record { left = b.left -ℤ pos 2; top = b.top -ℤ pos 2; right = b.right +ℤ pos 2; bottom = b.bottom +ℤ pos 2 }
