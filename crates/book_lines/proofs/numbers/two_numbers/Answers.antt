use Rattle.book_lines.proofs.numbers.two_numbers.Goals as goal

pub returns-in_err-number-clause-numbers : goal.returns-in_err-number-clause-numbers
returns-in_err-number-clause-numbers c = rw (c.from_residual.ensures) (λ v h. c.in_err-number.ensures.number v.0 h.0)

pub returns-in_err-number-2-clause-numbers : goal.returns-in_err-number-2-clause-numbers
returns-in_err-number-2-clause-numbers c = rw (c.from_residual-in_err-number-2.ensures) (λ v h. c.in_err-number-2.ensures.number v.1 h.1)
