-- The islands of a plane.
use Rattle.std.specs.Prelude.{◌⊎◌, not, ◌&&◌, List, [], ◌∷◌}
use Rattle.std.specs.List.{AllByRecursion}
use Rattle.life_cells.specs.Cells.{alive}
use Rattle.life_cells.specs.declared.cell.Cell.{Cell}
use Rattle.life_islands.specs.declared.island.Island.{Island}
use Rattle.life_islands.specs.Joined.{Lives, AreJoined}
use Rattle.life_cells.specs.Firsts.{IsFirstLive}
use Rattle.life_islands.specs.Order.{AreInOrder}
use Rattle.life_plane.specs.Plane.{Plane}

-- a part of a plane that is an island of it: it lives, its cells live in the plane and are joined there, and what is joined with one
-- of them is one of them
pub record IsIsland (s island : Plane) : Type 0 where
  pub some : (c : Cell) × Lives island c
  pub within : (c : Cell) → Lives island c → Lives s c
  pub joined : (a b : Cell) → Lives island a → Lives island b → AreJoined s a b
  pub whole : (a b : Cell) → Lives island a → AreJoined s a b → Lives island b

-- the plane is one island
abbrev pub IsOneIsland : Plane → Type 0
IsOneIsland s = IsIsland s s

-- what lives in the plane and not in the part
abbrev pub rest_of : Plane → Plane → Plane
rest_of s part x y = s x y && not (part x y)

-- the cells are an island of the plane, and the first of them is noted
pub record IsNoted (s : Plane) (island : Island) : Type 0 where
  pub is : IsIsland s (alive island.cells)
  pub first : IsFirstLive (alive island.cells) island.first

-- the cell lives in one of the islands
abbrev pub IsInOne : List Island → Cell → Type 0
IsInOne [] c = ⊥
IsInOne (island ∷ islands) c = Lives (alive island.cells) c ⊎ IsInOne islands c

-- the islands of a plane, in their order: each cell that lives is in one of them
pub record AreIslands (s : Plane) (islands : List Island) : Type 0 where
  pub each : AllByRecursion (IsNoted s) islands
  pub all : (c : Cell) → Lives s c → IsInOne islands c
  pub in_order : AreInOrder islands
