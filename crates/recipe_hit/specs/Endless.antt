-- Patterns of which it is seen that they never rest.
use Rattle.std.specs.Prelude.{◌≡◌, true, ℕ, ℤ, neg_ℤ, ◌-ℤ◌}
use Rattle.life_plane.specs.Plane.{Plane, run, IsStill}
use Rattle.life_cells.specs.declared.cell.Cell.{Cell}
use Rattle.life_cells.specs.Cells.{cell}

-- no generation of it is still
abbrev pub NeverStill : Plane → Type 0
NeverStill s = (t : ℕ) → IsStill (run t s) → ⊥

-- left for right
abbrev pub mirror : Plane → Plane
mirror s x y = s (neg_ℤ x) y

-- x for y
abbrev pub transpose : Plane → Plane
transpose s x y = s y x

-- a cell lives on this diagonal
pub record LivesOn (u : ℤ) (s : Plane) : Type 0 where
  pub x : ℤ
  pub y : ℤ
  pub lives : s x y ≡ true
  pub on : (x -ℤ y) ≡ u

-- a cell, left for right, and with x for y
abbrev pub mirrored_cell : Cell → Cell
mirrored_cell c = cell (neg_ℤ c.x) c.y

abbrev pub transposed_cell : Cell → Cell
transposed_cell c = cell c.y c.x
