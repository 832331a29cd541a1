-- The order of islands: a greater u = x - y among their cells comes first, and of two with the same greatest u the one whose first
-- cell comes first.
use Rattle.std.specs.Prelude.{◌≡◌, ◌⊎◌, ℤ, ◌-ℤ◌, ◌≤ℤ◌, ◌<ℤ◌, List, [], ◌∷◌}
use Rattle.std.specs.List.{AllByRecursion}
use Rattle.std.specs.declared.cmp.Ordering.TheVariants.{Less}
use Rattle.life_cells.specs.Cells.{alive, cell_cmp}
use Rattle.life_cells.specs.declared.cell.Cell.{Cell}
use Rattle.life_islands.specs.declared.island.Island.{Island}
use Rattle.life_islands.specs.Joined.{Lives}
use Rattle.life_plane.specs.Plane.{Plane}

-- the greatest u of the plane's cells
pub record IsGreatestU (u : ℤ) (s : Plane) : Type 0 where
  pub each : (c : Cell) → Lives s c → (c.x -ℤ c.y) ≤ℤ u
  pub there : (c : Cell) × (Lives s c × (c.x -ℤ c.y ≡ u))

-- an island comes before another
pub record ComesBefore (a b : Island) : Type 0 where
  pub u : ℤ
  pub other : ℤ
  pub greatest : IsGreatestU u (alive a.cells)
  pub greatest_other : IsGreatestU other (alive b.cells)
  pub before : (other <ℤ u) ⊎ ((u ≡ other) × (cell_cmp a.first b.first ≡ Less))

-- each island comes before all later ones
abbrev pub AreInOrder : List Island → Type 0
AreInOrder [] = Unit {0}
AreInOrder (island ∷ islands) = AllByRecursion (ComesBefore island) islands × AreInOrder islands
