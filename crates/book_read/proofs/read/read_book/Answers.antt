use Rattle.book_read.proofs.read.read_book.Goals as goal
use Rattle.std.specs.Str.Lines.{lines}
use Rattle.book_read.specs.Book.{StopsWith}
use Rattle.book_read.specs.Drafted.{stated_of}
use Rattle.book_read.proofs.Refusing.{err_is}
use Rattle.book_read.proofs.Finishing.{begun_refused, draft_refused, read_of, finished_err, finished_ok, finished_proper}

pub returns-in_err-begun-clause-err : goal.returns-in_err-begun-clause-err
returns-in_err-begun-clause-err c =
    err_is c.from_residual.result c.in_err-begun.field-0.0 (λ e. StopsWith c.args.text.now e) c.from_residual.ensures.1 (begun_refused c.args.text.now c.in_err-begun.field-0.0 c.in_err-begun.ensures.err)

pub returns-in_err-draft-clause-err : goal.returns-in_err-draft-clause-err
returns-in_err-draft-clause-err c =
    err_is c.from_residual-in_err-draft.result c.in_err-draft.field-0.0 (λ e. StopsWith c.args.text.now e) c.from_residual-in_err-draft.ensures.1
    (draft_refused c.args.text.now c.in_ok-begun.begun.number (lines c.in_ok-begun.begun.body.now) c.in_err-draft.field-0.0 c.in_ok-begun.ensures.ok c.in_err-draft.ensures.err)

pub returns-clause-ok : goal.returns-clause-ok
returns-clause-ok c =
    let read = read_of c.args.text.now c.in_ok-begun.begun.number (lines c.in_ok-begun.begun.body.now) (stated_of c.in_ok-draft.draft) c.in_ok-begun.ensures.ok c.in_ok-draft.ensures.fine in
    finished_ok c.args.text.now (stated_of c.in_ok-draft.draft) c.book_of.result read c.book_of.ensures.ok

pub returns-clause-proper : goal.returns-clause-proper
returns-clause-proper c =
    let read = read_of c.args.text.now c.in_ok-begun.begun.number (lines c.in_ok-begun.begun.body.now) (stated_of c.in_ok-draft.draft) c.in_ok-begun.ensures.ok c.in_ok-draft.ensures.fine in
    finished_proper c.args.text.now c.book_of.result (finished_ok c.args.text.now (stated_of c.in_ok-draft.draft) c.book_of.result read c.book_of.ensures.ok) c.book_of.ensures.far

pub returns-clause-err : goal.returns-clause-err
returns-clause-err c =
    let read = read_of c.args.text.now c.in_ok-begun.begun.number (lines c.in_ok-begun.begun.body.now) (stated_of c.in_ok-draft.draft) c.in_ok-begun.ensures.ok c.in_ok-draft.ensures.fine in
    finished_err c.args.text.now (stated_of c.in_ok-draft.draft) c.book_of.result read c.book_of.ensures.err
