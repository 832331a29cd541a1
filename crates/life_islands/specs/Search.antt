-- A search from one cell for all that are joined with it.
use Rattle.std.specs.Prelude.{◌≡◌, List, ◌++◌}
use Rattle.std.specs.List.{AllByRecursion}
use Rattle.life_cells.specs.Listed.{listed}
use Rattle.life_cells.specs.declared.cell.Cell.{Cell}
use Rattle.life_islands.specs.Joined.{Lives, AreJoined}
use Rattle.life_plane.specs.Plane.{Plane}

-- some cells with this property went behind the others, and now all with it are there
pub record Adds (P : Cell → Type 0) (before after : List Cell) : Type 0 where
  pub more : List Cell
  pub grown : after ≡ before ++ more
  pub own : AllByRecursion P more
  pub all : (c : Cell) → P c → Lives (listed after) c

-- just the cells that are joined with this one
pub record AreAllJoined (s : Plane) (start : Cell) (found : List Cell) : Type 0 where
  pub own : (c : Cell) → Lives (listed found) c → AreJoined s start c
  pub all : (c : Cell) → AreJoined s start c → Lives (listed found) c
