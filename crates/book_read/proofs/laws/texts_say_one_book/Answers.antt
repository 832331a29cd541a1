use Rattle.book_read.proofs.laws.texts_say_one_book.Goals as goal
use Rattle.book_read.proofs.OneBook.{one_book}

pub returns : goal.returns
returns c = one_book (record { one = c.lines_state_one_thing.ensures; one_fault = c.lines_have_one_fault.ensures; no_fault = c.stating_lines_have_no_fault.ensures })
