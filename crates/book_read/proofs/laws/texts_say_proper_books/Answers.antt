use Rattle.book_read.proofs.laws.texts_say_proper_books.Goals as goal
use Rattle.book_read.proofs.Sound.{text_proper}

pub returns : goal.returns
returns c = text_proper
