use Rattle.book_read.proofs.outside.placed_outside.Goals as goal
use Rattle.book_read.specs.Limited.{cell_numbers, body_numbers}
use Rattle.book_read.proofs.FirstOutside.{first_append}

pub returns : goal.returns
returns c = rw (c.or.ensures) (first_append (cell_numbers c.args.placed.now.at) (body_numbers c.args.placed.now.body) c.cell_outside.result c.body_outside.result c.cell_outside.ensures c.body_outside.ensures)
