-- Which places live on, by how many of the nine places within distance 1 live.
use Rattle.std.specs.Prelude.{ℕ, Bool, ◌&&◌, ◌||◌, nat_eq, cond, List, [], ◌∷◌}
use Rattle.life_cells.specs.declared.cell.Cell.{Cell}
use Rattle.life_cells.specs.Cells.{Cells, alive}

-- three, or four and the cell itself among them
abbrev pub lives_with : Cells → Cell → ℕ → Bool
lives_with live place n = nat_eq n 3 || (nat_eq n 4 && alive live place.x place.y)

-- the cell, if it lives on after so many marks
abbrev pub kept : (Cell → ℕ → Bool) → Cell → ℕ → List Cell
kept lives c n = cond (lives c n) (c ∷ []) []
