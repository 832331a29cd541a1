-- What is clear stays apart.
use Rattle.std.specs.Prelude.{ℕ, ◌≤◌}
use Rattle.life_plane.specs.Plane.{Plane, run, shift}
use Rattle.life_plane.specs.Apart.{Apart}
use Rattle.life_scene.specs.Hits as scene
use Rattle.life_scene.specs.ClearanceLaws.{aside_apart}
use Rattle.life_cells.specs.declared.cell.Cell.{Cell}
use Rattle.book_parts.specs.declared.settings.Settings.{Settings}
use Rattle.recipe_hit.specs.declared.frame.HitFrame.{HitFrame}
use Rattle.recipe_hit.specs.declared.frame.Hit.{Hit}
use Rattle.recipe_hit.specs.Strike.{IsHit}
use Rattle.lane_clear.specs.Frames.{moved_frame}
use Rattle.lane_clear.specs.MovedFrameLaws.{hit_at}
use Rattle.lane_clear.specs.Clear.{IsClear}
use Rattle.lane_clear.specs.StaysApart.{StaysApart}

pub clear_stays_apart : (settings : Settings) (built : Plane) (frame : HitFrame) → IsClear settings built frame → StaysApart built frame
clear_stays_apart settings built frame clear = record {
  hit = λ s inside. record {
    far = λ x y u v p q w. let i = inside u v q in clear.near x y p u v (record { right_of_left = i.left; below_top = i.top; left_of_right = i.right; above_bottom = i.bottom }) w;
  };
  flight = λ j early. aside_apart frame.lane frame.start built j clear.lane_free early;
}

-- each generation of a hit, moved to the hand's place
pub generations_stay_apart : (settings : Settings) (built : Plane) (place : Cell) (struck : Plane) (hit : Hit) → IsHit struck hit.frame.lane hit → IsClear settings built (moved_frame place hit.frame) →
    (t : ℕ) → t ≤ hit.generations → Apart built (run t (scene.hit_start (shift place.x place.y struck) (moved_frame place hit.frame).lane (moved_frame place hit.frame).start))
generations_stay_apart settings built place struck hit h clear t le =
    (clear_stays_apart settings built (moved_frame place hit.frame) clear).hit _ ((hit_at place struck hit h).inside t le)
