-- What a target is: a still life that isn't too wide and has not too many islands.
use Rattle.std.specs.Prelude.{◌≡◌, ℕ, ◌≤◌, ◌<◌, ◌^◌, ◌⊎◌, ℤ, pos, ◌+ℤ◌, ◌-ℤ◌, List, length}
use Rattle.std.specs.Int.{int_max}
use Rattle.life_plane.specs.Plane.{Plane, IsStill, nothing}
use Rattle.life_cells.specs.Boxes.{IsInRange, IsLeastBox}
use Rattle.life_cells.specs.Firsts.{IsFirstChange}
use Rattle.life_cells.specs.declared.bounds.Bounds.{Bounds}
use Rattle.life_islands.specs.Islands.{AreIslands}
use Rattle.life_islands.specs.declared.island.Island.{Island}
use Rattle.life_target.specs.declared.refusal.TargetError.{TargetError}
use Rattle.life_target.specs.declared.refusal.TargetError.TheVariants.{TooWide, NotStill, TooManyIslands, Memory}

-- the greatest side and the greatest number of islands
abbrev pub most_side : ℕ
most_side = 2048

abbrev pub most_islands : ℕ
most_islands = 4096

-- how many cells a box is wide and high
abbrev pub width : Bounds → ℤ
width box = (box.right -ℤ box.left) +ℤ pos 1

abbrev pub height : Bounds → ℤ
height box = (box.bottom -ℤ box.top) +ℤ pos 1

-- the greater side of the least box about what lives
pub record HasSide (s : Plane) (side : ℕ) : Type 0 where
  pub box : Bounds
  pub box_is : IsLeastBox box s
  pub side_is : pos side ≡ int_max (width box) (height box)

-- nothing lives, or the greater side is within the limit
abbrev pub IsNarrow : Plane → Type 0
IsNarrow s = (s ≡ nothing) ⊎ ((side : ℕ) × (HasSide s side × (side ≤ most_side)))

-- it has so many islands
abbrev pub HasIslands : Plane → ℕ → Type 0
HasIslands s count = (islands : List Island) × (AreIslands s islands × (length islands ≡ count))

-- not more than a target may have
abbrev pub HasFewIslands : Plane → Type 0
HasFewIslands s = (count : ℕ) × (HasIslands s count × (count ≤ most_islands))

-- A target: it is narrow and still, it has few islands, and its coordinates are from -2^40 to 2^40.
pub record IsTarget (s : Plane) : Type 0 where
  pub narrow : IsNarrow s
  pub still : IsStill s
  pub islands : HasFewIslands s
  pub range : IsInRange (2 ^ 40) s

-- a set is no target for this cause, the first in this order: it is too wide, it changes, it has too many islands
abbrev pub TargetIsRefused : Plane → TargetError → Type 0
TargetIsRefused s (TooWide side) = HasSide s side × (most_side < side)
TargetIsRefused s (NotStill cell) = IsNarrow s × IsFirstChange s cell
TargetIsRefused s (TooManyIslands count) = IsNarrow s × (IsStill s × (HasIslands s count × (most_islands < count)))
TargetIsRefused s Memory = Unit {0}

-- the tests one by one
abbrev pub SideIsRefused : Plane → TargetError → Type 0
SideIsRefused s (TooWide side) = HasSide s side × (most_side < side)
SideIsRefused s other = ⊥

abbrev pub ChangeIsRefused : Plane → TargetError → Type 0
ChangeIsRefused s (NotStill cell) = IsFirstChange s cell
ChangeIsRefused s Memory = Unit {0}
ChangeIsRefused s other = ⊥

abbrev pub NumberIsRefused : Plane → TargetError → Type 0
NumberIsRefused s (TooManyIslands count) = HasIslands s count × (most_islands < count)
NumberIsRefused s Memory = Unit {0}
NumberIsRefused s other = ⊥
