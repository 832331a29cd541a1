-- Which product fits the islands that are left, and which islands are left after it.
use Rattle.std.specs.Prelude.{◌≡◌, ◌⊎◌, List, [], ◌∷◌}
use Rattle.std.specs.List.{AllByRecursion}
use Rattle.life_plane.specs.Plane.{Plane, shift}
use Rattle.life_cells.specs.declared.cell.Cell.{Cell}
use Rattle.life_cells.specs.Cells.{alive}
use Rattle.life_islands.specs.Islands.{AreIslands}
use Rattle.life_islands.specs.Joined.{Lives}
use Rattle.life_islands.specs.declared.island.Island.{Island}
use Rattle.recipe_book.specs.Entries.{AreThose}

-- the cells of an island of a product, where the hand is at this place
abbrev pub island_at : Cell → Island → Plane
island_at place island = shift place.x place.y (alive island.cells)

-- these cells are one of the islands
abbrev pub IsOneOfThem : List Island → Plane → Type 0
IsOneOfThem [] s = ⊥
IsOneOfThem (island ∷ islands) s = (alive island.cells ≡ s) ⊎ IsOneOfThem islands s

-- The product has islands. The place puts the first of them on the first island that is left, and each of them on one that is left.
pub record Fits (left : List Island) (product : Plane) (place : Cell) : Type 0 where
  pub wanted : Island
  pub others : List Island
  pub left_is : left ≡ wanted ∷ others
  pub first : Island
  pub more : List Island
  pub islands_are : AreIslands product (first ∷ more)
  pub first_is : island_at place first ≡ alive wanted.cells
  pub each : AllByRecursion (λ (island : Island). IsOneOfThem left (island_at place island)) (first ∷ more)

-- no cell of the island is in the plane
abbrev pub IsOutside : Plane → Island → Type 0
IsOutside s island = (c : Cell) → Lives (alive island.cells) c → Lives s c → ⊥

-- the islands left after something is built are those outside of it, in their order
abbrev pub AreLeftAfter : List Island → Plane → List Island → Type 0
AreLeftAfter left built after = AreThose (IsOutside built) left after
