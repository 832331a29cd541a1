-- The places near live cells.
use Rattle.std.specs.Prelude.{ℤ, pos, negsuc, ℕ, ◌+◌, List, ◌++◌, map}
use Rattle.life_cells.specs.declared.cell.Cell.{Cell}
use Rattle.life_cells.specs.Moved.{moved}
use Rattle.life_plane.specs.Plane.{Plane, one_if, neighbours}

-- for each cell the three places nearest to it in the row dy below its own
abbrev pub near_row : ℤ → List Cell → List Cell
near_row dy cs = (map (moved (negsuc 0) dy) cs ++ map (moved (pos 0) dy) cs) ++ map (moved (pos 1) dy) cs

-- for each cell the nine places within distance 1
abbrev pub near_list : List Cell → List Cell
near_list cs = (near_row (negsuc 0) cs ++ near_row (pos 0) cs) ++ near_row (pos 1) cs

-- how many of the nine places within distance 1 live
abbrev pub block : Plane → ℤ → ℤ → ℕ
block s x y = one_if (s x y) + neighbours s x y
