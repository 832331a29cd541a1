use Rattle.std.proofs.Common.{◌∙◌}
use Rattle.life_cells.specs.Laws.{alive-from_list, alive_of_order}
use Rattle.life_plane.specs.Plane.{union}
use Rattle.life_cells.proofs.cell_set.CellSet.union.Goals as goal

pub returns : goal.returns
returns c =
    alive-from_list _ ∙ c.in_ok-cells.ensures.both
    ∙ (λ i. union (alive_of_order _ _ c.cells.ensures.order i) (alive_of_order _ _ c.cells-2.ensures.order i))
