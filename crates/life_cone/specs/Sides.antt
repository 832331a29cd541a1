-- Where cells lie by their diagonals: u = x - y, v = x + y.
use Rattle.std.specs.Prelude.{ℤ, pos, ◌+ℤ◌, ◌-ℤ◌, ◌≤ℤ◌, ◌⊎◌}
use Rattle.life_plane.specs.Plane.{Plane}
use Rattle.life_plane.specs.Strips.{Each, UAtMost, UAtLeast}

-- v lies from low to high
pub record IsInStrip (low high : ℤ) (x y : ℤ) : Type 0 where
  pub from : low ≤ℤ (x +ℤ y)
  pub to : (x +ℤ y) ≤ℤ high

-- v is at least five below the strip's low end, or at least five above its high end
pub record IsBesideStrip (low high : ℤ) (x y : ℤ) : Type 0 where
  pub side : ((x +ℤ y) ≤ℤ (low -ℤ pos 5)) ⊎ ((high +ℤ pos 5) ≤ℤ (x +ℤ y))

-- each cell of the one plane has u at most the limit, and each cell of the other at least five more
pub record AreSplit (limit : ℤ) (s t : Plane) : Type 0 where
  pub west : Each (UAtMost limit) s
  pub east : Each (UAtLeast (limit +ℤ pos 5)) t
