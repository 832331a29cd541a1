use Rattle.std.proofs.Common.{Option}
use Rattle.book_lines.specs.Lines.{texts}
use Rattle.book_lines.proofs.salvo.product.Goals as goal
use Rattle.book_lines.specs.Values.{Level}
use Rattle.book_lines.specs.Forms.{IsProduct}
use Rattle.book_lines.specs.declared.statement.Placed.{Placed}
use Rattle.book_lines.proofs.Lifting.{lift_error, err_reads}
use Rattle.book_lines.proofs.Cutting.{product_up, product_down}

pub returns-in_err-placed-clause-product : goal.returns-in_err-placed-clause-product
returns-in_err-placed-clause-product c =
    err_reads (λ (l : Level) (p : Option Placed). IsProduct l p (texts c.args.items.now)) c.from_residual.result c.in_err-placed.field-0.0 c.from_residual.ensures.1
    (lift_error _ _ (product_up _) (product_down _ (λ e. let yes = c.is_none.ensures.1 e in cc (yes, c.if-is_none.false))) c.in_err-placed.field-0.0 c.in_err-placed.ensures.placed)
