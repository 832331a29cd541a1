-- When a hit, moved to the hand's place, is clear of what is built.
use Rattle.std.specs.Prelude.{ℤ, pos, ◌-ℤ◌, ◌≤ℤ◌}
use Rattle.life_plane.specs.Plane.{Plane}
use Rattle.life_plane.specs.Apart.{Within}
use Rattle.life_plane.specs.Strips.{Each}
use Rattle.life_scene.specs.Turns.{beyond}
use Rattle.life_scene.specs.Clearance.{Aside}
use Rattle.life_cells.specs.Boxes.{InBox}
use Rattle.life_cells.specs.declared.bounds.Bounds.{Bounds}
use Rattle.book_parts.specs.declared.settings.Settings.{Settings}
use Rattle.recipe_hit.specs.declared.frame.HitFrame.{HitFrame}

-- the bounds are beyond the reach
abbrev pub AreBeyond : Settings → Bounds → Type 0
AreBeyond settings bounds = beyond settings.reach ≤ℤ (bounds.left -ℤ bounds.bottom)

-- no cell of these bounds is within distance 2 of the cell
abbrev pub IsOffBounds : Bounds → ℤ → ℤ → Type 0
IsOffBounds bounds x y = (u v : ℤ) → InBox bounds u v → Within (pos 2) x y u v → ⊥

-- the cell is off the lane of a hit's glider, or ahead of where the hit begins
abbrev pub IsAside : HitFrame → ℤ → ℤ → Type 0
IsAside frame x y = Aside frame.lane frame.start x y

-- A hit of this frame is clear of what is built: its bounds are beyond the reach, and each built cell is off the bounds and aside.
pub record IsClear (settings : Settings) (built : Plane) (frame : HitFrame) : Type 0 where
  pub works : AreBeyond settings frame.bounds
  pub near : Each (IsOffBounds frame.bounds) built
  pub lane_free : Each (IsAside frame) built
