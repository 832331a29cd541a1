-- What stays apart from what is built.
use Rattle.std.specs.Prelude.{ℤ, pos, ◌+ℤ◌, ◌*ℤ◌, ◌≤ℤ◌}
use Rattle.life_plane.specs.Plane.{Plane}
use Rattle.life_plane.specs.Apart.{Apart}
use Rattle.life_plane.specs.Strips.{Each}
use Rattle.life_plane.specs.Salvo.{salvo_glider}
use Rattle.life_scene.specs.Hits as scene
use Rattle.recipe_hit.specs.declared.frame.HitFrame.{HitFrame}
use Rattle.recipe_hit.specs.SceneBoxes.{as_box}

-- a hit while it happens, which is in its bounds, and its glider up to the last phase of the quarter at which it begins, stay apart from
-- what is built
pub record StaysApart (built : Plane) (frame : HitFrame) : Type 0 where
  pub hit : (s : Plane) → Each (scene.InBox (as_box frame.bounds)) s → Apart built s
  pub flight : (j : ℤ) → j ≤ℤ (pos 4 *ℤ frame.start +ℤ pos 3) → Apart built (salvo_glider frame.lane j)
