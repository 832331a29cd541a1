use Rattle.std.specs.Prelude.{◌≡◌, ℕ, ◌<◌, ℤ}
use Rattle.life_cells.specs.Cells.{alive}
use Rattle.life_plane.specs.Salvo.{salvo_glider}
use Rattle.life_gliders.specs.Beyond.{beyond}
use Rattle.life_gliders.specs.Starts.{StartsAt}
use Rattle.life_gliders.proofs.finding.find_salvo_glider.Given as goal

abbrev pub invariant-loop-number : goal.invariant-loop-number
invariant-loop-number l = (k : ℕ) → k < l.number → (lane j : ℤ) → StartsAt l.first k lane j → beyond l.wall (alive l.cells) ≡ salvo_glider lane j → ⊥
