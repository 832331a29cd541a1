use Rattle.std.proofs.Common.{take, None, flat_map}
use Rattle.book_read.proofs.outside.cells_outside.Given as goal
use Rattle.book_read.specs.Limited.{cell_numbers, IsFirstOutside}

-- the cells so far are within the limits
abbrev pub invariant-loop-cell : goal.invariant-loop-cell
invariant-loop-cell l = IsFirstOutside (flat_map cell_numbers (take l.cell-index l.cell-items)) None
