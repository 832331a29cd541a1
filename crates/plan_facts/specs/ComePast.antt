-- How a glider stands to the hits that have been.
use Rattle.std.specs.Prelude.{◌≡◌, ◌⊎◌, ℕ, ℤ, List}
use Rattle.std.specs.List.{AllByRecursion}
use Rattle.life_plane.specs.Plane.{Plane}
use Rattle.life_plane.specs.Strips.{Each}
use Rattle.life_scene.specs.Clearance.{ComesPast}
use Rattle.event_times.specs.TimedTurns.{Timed, end}
use Rattle.event_times.specs.Events.{HasBeen, SparesHit}
use Rattle.recipe_hit.specs.SceneBoxes.{as_box}
use Rattle.life_scene.specs.Hits as scene
use Rattle.life_cells.specs.declared.bounds.Bounds.{Bounds}

-- a glider that spares all hits that have been comes past one in these bounds that has ended then
abbrev pub ComePast : List HasBeen → Bounds → ℕ → Type 0
ComePast hits bounds finish = (m : Timed) (lane j : ℤ) → AllByRecursion (SparesHit m lane j) hits → ComesPast (as_box bounds) finish lane j (end m)

-- the last hit that has been: what stands at the hand has been left by it
pub record IsLast (hits : List HasBeen) (stands : Plane) (since : ℕ) : Type 0 where
  pub bounds : Bounds
  pub inside : Each (scene.InBox (as_box bounds)) stands
  pub past : ComePast hits bounds since

-- there was none, or it is the last one
abbrev pub IsSettled : List HasBeen → Plane → ℕ → Type 0
IsSettled hits stands since = (since ≡ 0) ⊎ IsLast hits stands since
