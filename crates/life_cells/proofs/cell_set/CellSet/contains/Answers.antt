use Rattle.std.proofs.Common.{sym, ap, ◌∙◌}
use Rattle.life_cells.specs.Listed.{listed}
use Rattle.life_cells.specs.Laws.{alive-in_order_at}
use Rattle.life_cells.proofs.Places.{search_is_listed}
use Rattle.life_cells.proofs.cell_set.CellSet.contains.Goals as goal

pub returns : goal.returns
returns c =
    c.is_ok.ensures.value
    ∙ search_is_listed _ c.args.cell _ c.cells.ensures.rising c.binary_search.ensures.bound c.binary_search.ensures.position
    ∙ ap (λ cs. listed cs c.args.cell.x c.args.cell.y) c.cells.ensures.order
    ∙ sym (alive-in_order_at c.args.self.now c.args.cell.x c.args.cell.y)
