-- Cells of a plane that links join.
use Rattle.std.specs.Prelude.{◌≡◌, true, pos, List, [], ◌∷◌}
use Rattle.life_cells.specs.declared.cell.Cell.{Cell}
use Rattle.life_plane.specs.Plane.{Plane}
use Rattle.life_plane.specs.Apart.{Within}

-- the cell lives in the plane
abbrev pub Lives : Plane → Cell → Type 0
Lives s c = s c.x c.y ≡ true

-- a link leads from the one cell to the other: it lives, and it is within distance 2
pub record Links (s : Plane) (from to : Cell) : Type 0 where
  pub lives : Lives s to
  pub near : Within (pos 2) from.x from.y to.x to.y

-- links lead from a cell to each of the listed ones in turn; the last one is the other cell
abbrev pub LeadsBy : Plane → Cell → List Cell → Cell → Type 0
LeadsBy s from [] to = from ≡ to
LeadsBy s from (next ∷ cells) to = Links s from next × LeadsBy s next cells to

-- some list of live cells leads by links from a live cell to the other
pub record AreJoined (s : Plane) (from to : Cell) : Type 0 where
  pub lives : Lives s from
  pub cells : List Cell
  pub leads : LeadsBy s from cells to
