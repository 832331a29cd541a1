-- How a pattern comes to rest.
use Rattle.std.specs.Prelude.{◌≡◌, ℕ, ◌≤◌}
use Rattle.life_plane.specs.Plane.{Plane, IsStill, run}
use Rattle.life_cells.specs.Cells.{alive}
use Rattle.life_cells.specs.Boxes.{IsLeastBox}
use Rattle.recipe_hit.specs.declared.rest.Rest.{Rest}
use Rattle.recipe_hit.specs.Strike.{ComesToRest, ever}
use Rattle.recipe_hit.specs.declared.limits.TheConstants.{LONGEST_HIT}

-- a pattern comes to rest so, within 4,096 generations
pub record IsRestOf (start : Plane) (rest : Rest) : Type 0 where
  pub rests : ComesToRest start rest.generations
  pub soon : rest.generations ≤ LONGEST_HIT
  pub leaves : alive rest.after ≡ run rest.generations start
  pub bounds : IsLeastBox rest.bounds (ever rest.generations start)

-- it comes to rest in none of the generations from 0 to 4,096
abbrev pub NeverRests : Plane → Type 0
NeverRests start = (t : ℕ) → t ≤ LONGEST_HIT → IsStill (run t start) → ⊥
