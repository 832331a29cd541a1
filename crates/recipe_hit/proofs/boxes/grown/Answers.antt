use Rattle.std.proofs.Common.{subst, sym, Some}
use Rattle.life_plane.specs.Plane.{union}
use Rattle.life_cells.specs.Boxes.{IsLeastBox, IsBoxOf}
use Rattle.life_cells.specs.BoxLaws.{least_of_both, box_stays}
use Rattle.recipe_hit.proofs.boxes.grown.Goals as goal

pub returns-in-Some : goal.returns-in-Some
returns-in-Some c = λ s t h k.
    subst (λ box. IsLeastBox box (union s t)) (sym c.joined.ensures) (least_of_both c.args.bounds c.in-Some.more s t h (subst (λ more. IsBoxOf more t) c.in-Some.is k))

pub returns-in-None : goal.returns-in-None
returns-in-None c = λ s t h k. box_stays (Some c.args.bounds) s t (subst (λ more. IsBoxOf more t) c.in-None.is k) h
