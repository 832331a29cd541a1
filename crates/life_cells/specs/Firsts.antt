-- First cells, in (y,x) order.
use Rattle.std.specs.Prelude.{◌≡◌, ◌≢◌, true, ℤ}
use Rattle.std.specs.declared.cmp.Ordering.TheVariants.{Less}
use Rattle.life_cells.specs.declared.cell.Cell.{Cell}
use Rattle.life_cells.specs.Cells.{cell, cell_cmp}
use Rattle.life_plane.specs.Plane.{Plane, step}

-- the first place in (y,x) order that has this property
pub record IsFirstOf (P : ℤ → ℤ → Type 0) (first : Cell) : Type 0 where
  pub is : P first.x first.y
  pub none_before : (x y : ℤ) → P x y → cell_cmp (cell x y) first ≢ Less

-- the first live cell
abbrev pub IsFirstLive : Plane → Cell → Type 0
IsFirstLive s first = IsFirstOf (λ x y. s x y ≡ true) first

-- the first cell in just one of two planes
abbrev pub IsFirstDifferent : Plane → Plane → Cell → Type 0
IsFirstDifferent s t first = IsFirstOf (λ x y. s x y ≢ t x y) first

-- the first cell that changes in the next generation
abbrev pub IsFirstChange : Plane → Cell → Type 0
IsFirstChange s first = IsFirstDifferent (step s) s first
