-- Islands of a moved plane.
use Rattle.std.specs.Prelude.{◌≡◌, ℤ, List, [], ◌∷◌}
use Rattle.life_cells.specs.Cells.{alive}
use Rattle.life_cells.specs.Moved.{moved}
use Rattle.life_islands.specs.declared.island.Island.{Island}
use Rattle.life_plane.specs.Plane.{shift}

-- the other island is the one moved right by dx and down by dy
pub record IsMovedIsland (dx dy : ℤ) (island other : Island) : Type 0 where
  pub cells : alive other.cells ≡ shift dx dy (alive island.cells)
  pub first : other.first ≡ moved dx dy island.first

-- the other islands are these moved, one by one
abbrev pub AreMovedIslands : ℤ → ℤ → List Island → List Island → Type 0
AreMovedIslands dx dy [] [] = Unit {0}
AreMovedIslands dx dy [] (other ∷ others) = ⊥
AreMovedIslands dx dy (island ∷ islands) [] = ⊥
AreMovedIslands dx dy (island ∷ islands) (other ∷ others) = IsMovedIsland dx dy island other × AreMovedIslands dx dy islands others
