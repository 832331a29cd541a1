use Rattle.std.proofs.Common.{List, ◌∙◌, ap}
use Rattle.std.specs.List.{slice_get}
use Rattle.life_cells.specs.declared.cell.Cell.{Cell}
use Rattle.life_plane.specs.LookUpLaws.{copied_item}
use Rattle.hand_route.proofs.CarriedPlaces.{near_at}
use Rattle.hand_route.proofs.found.Found.at.Goals as goal

pub returns-clause-near : goal.returns-clause-near
returns-clause-near c =
    near_at c.self.inside.room _ _ c.args.place c.copied.result c.self.invariant.0 c.self.invariant.1
    (c.copied.ensures ∙ copied_item _ _ c.get.result c.get.ensures.lookup ∙ ap (λ (cs : List Cell). slice_get cs c.args.place) c.deref.ensures.value)
