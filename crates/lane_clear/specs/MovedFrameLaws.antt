-- A hit of the book, moved to the hand's place.
use Rattle.life_plane.specs.Plane.{Plane, shift}
use Rattle.life_scene.specs.MovedHitLaws.{hit_moved}
use Rattle.recipe_hit.specs.Strike.{IsHit}
use Rattle.recipe_hit.specs.SceneHitLaws.{scene_hit}
use Rattle.recipe_hit.specs.SceneBoxes.{as_box}
use Rattle.lane_clear.specs.Frames.{moved_bounds, moved_frame}
use Rattle.life_scene.specs.Hits as scene
use Rattle.life_cells.specs.Cells.{alive}
use Rattle.life_cells.specs.declared.cell.Cell.{Cell}
use Rattle.recipe_hit.specs.declared.frame.Hit.{Hit}

-- a hit of the book, moved to the hand's place, is one for the composition theorem
pub hit_at : (place : Cell) (struck : Plane) (hit : Hit) (h : IsHit struck hit.frame.lane hit) →
    scene.IsHit (shift place.x place.y struck) (as_box (moved_bounds place h.box)) (moved_frame place hit.frame).lane (moved_frame place hit.frame).start hit.generations
    (shift place.x place.y (alive hit.after)) (as_box (moved_frame place hit.frame).bounds)
hit_at place struck hit h = hit_moved place.x place.y struck (as_box h.box) hit.frame.lane hit.frame.start hit.generations (alive hit.after) (as_box hit.frame.bounds) (scene_hit struck hit.frame.lane hit h)
