use Rattle.std.proofs.Common.{◌∙◌, ap}
use Rattle.life_plane.specs.Plane.{step}
use Rattle.life_cells.specs.Cells.{alive}
use Rattle.life_cells.specs.FirstLaws.{changed}
use Rattle.life_tiles.proofs.still.first_change.Goals as goal

pub returns-clause-change : goal.returns-clause-change
returns-clause-change g c =
    changed c.args.cells.now _ _ _ (ap alive c.in_ok-next.ensures ∙ c.in_ok-step.ensures.next ∙ ap (λ s. step (alive s)) c.in_ok-tiles.ensures) c.first_difference.ensures.some c.first_difference.ensures.none
