use Rattle.book_lines.proofs.numbers.place.Goals as goal

pub returns-in_err-x-clause-place : goal.returns-in_err-x-clause-place
returns-in_err-x-clause-place c = rw (c.from_residual.ensures) (λ v h. c.in_err-x.ensures.numbers (v.x, v.y) h)
