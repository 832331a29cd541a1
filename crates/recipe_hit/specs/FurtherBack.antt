-- A hit seen from earlier on: its glider starts further back on its lane.
use Rattle.std.specs.Prelude.{◌≡◌, ℕ, ◌+◌, pos, ◌-ℤ◌, ◌*ℤ◌, ℤ}
use Rattle.life_plane.specs.Plane.{Plane, run, union}
use Rattle.life_plane.specs.Salvo.{salvo_glider}
use Rattle.life_cells.specs.Cells.{alive}
use Rattle.life_cells.specs.Boxes.{IsLeastBox}
use Rattle.life_cells.specs.declared.bounds.Bounds.{Bounds}
use Rattle.recipe_hit.specs.declared.frame.Hit.{Hit}
use Rattle.recipe_hit.specs.Strike.{first_quarter, hit_start, ComesToRest}

-- what is struck, and the glider so many generations before it is where a hit begins
abbrev pub start_before : ℕ → Plane → Bounds → ℤ → Plane
start_before back struck box lane = union struck (salvo_glider lane (pos 4 *ℤ first_quarter box lane -ℤ pos back))

-- From so many generations further back the hit is the same: each generation comes so many later, the first still one too, and it leaves
-- the same.
pub record IsHitFrom (back : ℕ) (struck : Plane) (lane : ℤ) (hit : Hit) : Type 0 where
  pub box : Bounds
  pub box_is : IsLeastBox box struck
  pub later : (n : ℕ) → run (back + n) (start_before back struck box lane) ≡ run n (hit_start struck box lane)
  pub rests : ComesToRest (start_before back struck box lane) (back + hit.generations)
  pub leaves : alive hit.after ≡ run (back + hit.generations) (start_before back struck box lane)
