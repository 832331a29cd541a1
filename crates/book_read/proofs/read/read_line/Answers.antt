use Rattle.book_read.proofs.read.read_line.Goals as goal
use Rattle.book_read.specs.Drafted.{stated_of, IsLineRefusal}
use Rattle.book_read.proofs.Refusing.{err_is}

pub returns-in_err-statement-clause-err : goal.returns-in_err-statement-clause-err
returns-in_err-statement-clause-err c =
    err_is c.from_residual.result c.in_err-statement.field-0.0 (λ e. IsLineRefusal (stated_of c.args.draft.now) c.args.line.now c.args.number e) c.from_residual.ensures.1 (c.in_err-statement.ensures.err (stated_of c.args.draft.now))
