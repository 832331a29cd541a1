-- A hit: a glider strikes what lives, and all comes to rest.
use Rattle.std.specs.Prelude.{◌≡◌, ℕ, zero, suc, ◌<◌, ◌≤◌, ℤ, pos, neg_ℤ, nat_abs, ◌+ℤ◌, ◌-ℤ◌, ◌*ℤ◌, ◌≤ℤ◌}
use Rattle.std.specs.Int.{int_max}
use Rattle.life_plane.specs.Plane.{Plane, IsStill, run, union}
use Rattle.life_plane.specs.Salvo.{salvo_glider}
use Rattle.life_cells.specs.Cells.{alive}
use Rattle.life_cells.specs.Boxes.{IsLeastBox}
use Rattle.life_cells.specs.declared.bounds.Bounds.{Bounds}
use Rattle.recipe_hit.specs.declared.frame.Hit.{Hit}
use Rattle.recipe_hit.specs.declared.limits.TheConstants.{LONGEST_HIT, BEYOND}

-- The quarter of a glider's index from which it comes to what lies in the box: six cells away to the left of it, or below it, whichever
-- is nearer.
abbrev pub first_quarter : Bounds → ℤ → ℤ
first_quarter box lane = int_max ((box.left -ℤ pos 6) -ℤ lane) (neg_ℤ box.bottom -ℤ pos 6)

-- what is struck, and the glider of this lane at that quarter
abbrev pub hit_start : Plane → Bounds → ℤ → Plane
hit_start struck box lane = union struck (salvo_glider lane (pos 4 *ℤ first_quarter box lane))

-- all cells of the generations from 0 to n
abbrev pub ever : ℕ → Plane → Plane
ever zero s = s
ever (suc n) s = union (ever n s) (run (suc n) s)

-- generation n is still, and none before it
pub record ComesToRest (s : Plane) (n : ℕ) : Type 0 where
  pub still : IsStill (run n s)
  pub first : (t : ℕ) → t < n → IsStill (run t s) → ⊥

-- how far the bounds of a hit may go beyond those of what was struck
abbrev pub beyond : ℕ
beyond = nat_abs BEYOND

-- a box goes at most so far beyond another on each side
pub record IsNear (box other : Bounds) : Type 0 where
  pub left : (other.left -ℤ BEYOND) ≤ℤ box.left
  pub top : (other.top -ℤ BEYOND) ≤ℤ box.top
  pub right : box.right ≤ℤ (other.right +ℤ BEYOND)
  pub bottom : box.bottom ≤ℤ (other.bottom +ℤ BEYOND)

-- A hit of a glider of this lane: it comes to rest within 4,096 generations, leaves what lives then, and keeps its bounds on the way, which
-- are near those of what was struck.
pub record IsHit (struck : Plane) (lane : ℤ) (hit : Hit) : Type 0 where
  pub box : Bounds
  pub box_is : IsLeastBox box struck
  pub lane_is : hit.frame.lane ≡ lane
  pub start_is : hit.frame.start ≡ first_quarter box lane
  pub rests : ComesToRest (hit_start struck box lane) hit.generations
  pub soon : hit.generations ≤ LONGEST_HIT
  pub leaves : alive hit.after ≡ run hit.generations (hit_start struck box lane)
  pub bounds : IsLeastBox hit.frame.bounds (ever hit.generations (hit_start struck box lane))
  pub near : IsNear hit.frame.bounds box
