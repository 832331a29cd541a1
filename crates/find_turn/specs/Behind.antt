-- What is not in front of the wall.
use Rattle.std.specs.Prelude.{Bool, ◌&&◌, int_lt, ℤ, pos, ◌+ℤ◌, ◌-ℤ◌}
use Rattle.life_plane.specs.Plane.{Plane}
use Rattle.life_cells.specs.declared.cell.Cell.{Cell}

-- u = x - y is at most four more than the wall
abbrev pub is_behind : ℤ → Cell → Bool
is_behind wall c = int_lt (c.x -ℤ c.y) (wall +ℤ pos 5)

-- the cells of which this holds
abbrev pub behind : ℤ → Plane → Plane
behind wall s x y = s x y && int_lt (x -ℤ y) (wall +ℤ pos 5)
