use Rattle.std.proofs.Common.{Some}
use Rattle.book_lines.proofs.salvo.is_product.Goals as goal
use Rattle.book_lines.proofs.Cutting.{product_down}
use Rattle.book_lines.specs.Values.{Level}

pub returns-else-is_none : goal.returns-else-is_none
returns-else-is_none c = (
  (λ h. let p = c.is_placed.ensures.0 h in (Some p.0, p.1)),
  (λ h. c.is_placed.ensures.1 (product_down _ (λ e. let yes = c.is_none.ensures.1 e in cc (yes, c.if-is_none.false)) Level.Form h.0 h.1)),
)
