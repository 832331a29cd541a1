use Rattle.book_lines.proofs.number.natural.Goals as goal

pub number_of-requires-clause-digits : goal.number_of-requires-clause-digits
number_of-requires-clause-digits c = cc (c.are_digits.ensures, c.if-not-are_digits.false)

pub returns-then-not-are_digits-clause-natural : goal.returns-then-not-are_digits-clause-natural
returns-then-not-are_digits-clause-natural c = λ n h. cc (c.are_digits.ensures, c.if-not-are_digits.true, h.digits.digits)
