use Rattle.book_write.proofs.Following.{book_reads_back}
use Rattle.book_write.proofs.laws.book_texts_are_read.Goals as goal

pub returns : goal.returns
returns c = book_reads_back
