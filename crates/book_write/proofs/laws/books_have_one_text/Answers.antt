use Rattle.book_write.proofs.OneWriting.{one_text}
use Rattle.book_write.proofs.laws.books_have_one_text.Goals as goal

pub returns : goal.returns
returns c = one_text c.sets_have_one_word.ensures
