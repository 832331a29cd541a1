-- `replay PATTERN N`: a later generation of a pattern.
use Rattle.std.specs.Prelude.{ℕ, List, None}
use Rattle.life_plane.specs.Plane.{Plane, run}
use Rattle.life_rle.specs.Text.{Means}
use Rattle.life_rle.specs.Written.{IsRleText}
use Rattle.life_cli.specs.Inputs.{Told, pattern_input}
use Rattle.life_cli.specs.Stages.{Stages}
use Rattle.life_cli.specs.Stages.Stages.{Answer}
use Rattle.life_cli.specs.declared.status.Which.TheVariants.{Pattern}

-- the bytes are the text, without a note, of the n-th generation of these cells
pub record IsReplayed (s : Plane) (n : ℕ) (bytes : List ℕ) : Type 0 where
  pub written : IsRleText (run n s) None bytes
  pub means : Means bytes (run n s)

-- ---- the stages

abbrev pub replay : Told → List ℕ → ℕ → Stages
replay told name n = pattern_input told name Pattern (λ s. Answer n (IsReplayed s n))
