use Rattle.std.proofs.Common.{List, subst, ◌∙◌, None, flat_map}
use Rattle.book_read.proofs.outside.cells_outside.Goals as goal
use Rattle.std.proofs.Common.{get_or}
use Rattle.book_read.specs.Limited.{cell_numbers, IsFirstOutside}
use Rattle.book_read.proofs.FirstOutside.{first_more, first_some_at, none_is}
use Rattle.std.proofs.Common.{pos}
use Rattle.life_cells.specs.Cells.{cell}
use Rattle.life_cells.specs.declared.cell.Cell.{Cell}
use Rattle.std.proofs.lemmas.List.{take_all}

pub loop-cell-preserved : goal.loop-cell-preserved
loop-cell-preserved c =
    first_more cell_numbers c.cells-cell-items.result.now c.loop-cell.cell-index (cell (pos 0) (pos 0)) c.loop-cell-test.true c.loop-cell.invariant (none_is (cell_numbers (get_or c.cells-cell-items.result.now c.loop-cell.cell-index (cell (pos 0) (pos 0)))) c.cell_outside-found.result c.if-is_some.ensures c.cell_outside-found.ensures)

pub returns-then-is_some : goal.returns-then-is_some
returns-then-is_some c =
    subst (λ (cs : List Cell). IsFirstOutside (flat_map cell_numbers cs) c.cell_outside-found.result) c.cells-cell-items.ensures.order
    (first_some_at cell_numbers c.cells-cell-items.result.now c.loop-cell.cell-index (cell (pos 0) (pos 0)) c.cell_outside-found.result c.loop-cell-test.true c.if-is_some.ensures c.loop-cell.invariant c.cell_outside-found.ensures)

pub returns : goal.returns
returns c =
    subst (λ (cs : List Cell). IsFirstOutside (flat_map cell_numbers cs) None) (take_all c.loop-cell.cell-index c.cells-cell-items.result.now c.loop-cell-test.false ∙ c.cells-cell-items.ensures.order) c.loop-cell.invariant
