-- Cells moved by one distance.
use Rattle.std.specs.Prelude.{ℤ, ◌+ℤ◌, FitsSigned}
use Rattle.std.specs.Int.{w64}
use Rattle.life_cells.specs.declared.cell.Cell.{Cell}
use Rattle.life_cells.specs.Cells.{cell}

-- the cell moved right by dx and down by dy
abbrev pub moved : ℤ → ℤ → Cell → Cell
moved dx dy c = cell (c.x +ℤ dx) (c.y +ℤ dy)

-- the moved cell has coordinates of 64 bits
pub record FitsMoved (dx dy : ℤ) (c : Cell) : Type 0 where
  pub x : FitsSigned w64 (c.x +ℤ dx)
  pub y : FitsSigned w64 (c.y +ℤ dy)
