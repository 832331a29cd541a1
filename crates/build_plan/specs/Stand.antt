-- Where a planner stands.
use Rattle.std.specs.Prelude.{List, Option}
use Rattle.life_plane.specs.Plane.{Plane}
use Rattle.life_cells.specs.declared.cell.Cell.{Cell}
use Rattle.life_islands.specs.declared.island.Island.{Island}
use Rattle.elbow_graph.specs.declared.elbow.Elbow.{Elbow}

-- its elbow, its hand's place if there is a hand, what is built, and the islands that are left, in their order
pub record Stand : Type 0 where
  pub elbow : Elbow
  pub place : Option Cell
  pub built : Plane
  pub left : List Island
