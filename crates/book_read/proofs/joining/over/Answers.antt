use Rattle.book_read.proofs.joining.over.Goals as goal
use Rattle.book_read.specs.Limited.{numbers, counts}
use Rattle.book_read.specs.Drafted.{stated_of}
use Rattle.book_read.proofs.FirstOutside.{first_append}

pub returns : goal.returns
returns c = rw (c.or.ensures) (first_append (numbers c.args.statement.now) (counts (stated_of c.args.draft.now) c.args.statement.now) c.number_outside-number.result c.count_outside-count.result c.number_outside-number.ensures c.count_outside-count.ensures)
