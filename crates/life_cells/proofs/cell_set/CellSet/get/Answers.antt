use Rattle.std.proofs.Common.{ap, ◌∙◌}
use Rattle.std.specs.List.{slice_get}
use Rattle.life_plane.specs.LookUpLaws.{copied_item}
use Rattle.life_cells.proofs.cell_set.CellSet.get.Goals as goal

pub returns : goal.returns
returns c = c.copied.ensures ∙ copied_item _ _ _ c.get.ensures.lookup ∙ ap (λ cs. slice_get cs c.args.place) c.cells.ensures.order
