-- Whether a list has a cell.
use Rattle.std.specs.Prelude.{ℕ, ◌+◌, Bool, ℤ, List, [], ◌∷◌}
use Rattle.std.specs.List.{list_any}
use Rattle.std.specs.Ordering.{eq_by_cmp}
use Rattle.life_cells.specs.declared.cell.Cell.{Cell}
use Rattle.life_cells.specs.Cells.{cell, cell_cmp}
use Rattle.life_plane.specs.Plane.{Plane, one_if}

-- whether two cells are one
abbrev pub same_cell : Cell → Cell → Bool
same_cell a b = eq_by_cmp cell_cmp a b

-- the listed cells as a plane
abbrev pub listed : List Cell → Plane
listed cs x y = list_any (same_cell (cell x y)) cs

-- how often the cell at x and y is listed
abbrev pub times : List Cell → ℤ → ℤ → ℕ
times [] x y = 0
times (c ∷ cs) x y = one_if (same_cell (cell x y) c) + times cs x y
