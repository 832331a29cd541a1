use Rattle.book_lines.specs.Lines.{texts}
use Rattle.book_lines.proofs.placed.placed.Goals as goal
use Rattle.book_lines.proofs.Cutting.{placed_form, placed_number, placed_error}
use Rattle.book_lines.specs.Values.{Level}
use Rattle.book_lines.specs.Forms.{IsPlacedBody}
use Rattle.book_lines.specs.declared.statement.Placed.{Placed}
use Rattle.book_lines.proofs.Lifting.{err_reads}

pub returns-in_default-place-clause-placed : goal.returns-in_default-place-clause-placed
returns-in_default-place-clause-placed c =
    let t = c.in-Some.x.now in
    let u = c.in-Some.y.now in
    let v = c.in-Some.word.now in
    let form = placed_form _ t u v c.in-Some.ensures (c.have_no_colon.ensures.0 c.if-not-have_no_colon.false) in
    record { value = form.0; so_far = form.1; no_farther = λ p h. c.in_default-place.ensures.place p.at (placed_number p _ t u v c.in-Some.ensures h) }

pub returns-in_err-body-clause-placed : goal.returns-in_err-body-clause-placed
returns-in_err-body-clause-placed c = err_reads (λ (l : Level) (p : Placed). IsPlacedBody l p (texts c.args.items.now)) c.from_residual.result c.in_err-body.field-0.0 c.from_residual.ensures.1
    (placed_error _ c.in-Some.x.now c.in-Some.y.now c.in-Some.word.now c.in-Some-place.at c.in-Some.ensures (c.have_no_colon.ensures.0 c.if-not-have_no_colon.false)
    c.in-Some-place.ensures.place.0 c.in-Some-place.ensures.place.1 c.in_err-body.field-0.0 c.in_err-body.ensures.body)
