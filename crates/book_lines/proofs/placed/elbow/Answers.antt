use Rattle.book_lines.specs.Lines.{texts}
use Rattle.book_lines.proofs.placed.elbow.Goals as goal
use Rattle.book_lines.specs.Values.{Level}
use Rattle.book_lines.specs.Forms.{IsElbowLine}
use Rattle.book_lines.specs.declared.statement.ElbowLine.{ElbowLine}
use Rattle.book_lines.proofs.Lifting.{lift_error, err_reads}
use Rattle.book_lines.proofs.Cutting.{elbow_up, elbow_down}

pub returns-in_err-placed-clause-elbow : goal.returns-in_err-placed-clause-elbow
returns-in_err-placed-clause-elbow c =
    let word = c.in-Some.word.now in
    let behind = texts c.in-Some.behind.now in
    err_reads (λ (l : Level) (e : ElbowLine). IsElbowLine l e (texts c.args.items.now)) c.from_residual.result c.in_err-placed.field-0.0 c.from_residual.ensures.1
    (lift_error _ _ (elbow_up _ word behind c.in-Some.ensures c.in-Some-name.ensures.some.1) (elbow_down _ word behind c.in-Some.ensures) c.in_err-placed.field-0.0 c.in_err-placed.ensures.placed)
