use Rattle.std.proofs.Common.{◌≡◌, ◌++◌}
use Rattle.rle_items.specs.Cursor.{row_cells}
use Rattle.rle_items.proofs.cells.add_row_cells.Given as goal

-- the cells of the row so far
abbrev pub invariant-loop-step : goal.invariant-loop-step
invariant-loop-step l = l.cells.items ≡ l.fn.cells.items ++ row_cells l.first l.step
