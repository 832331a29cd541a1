use Rattle.book_lines.proofs.placed.is_placed.Goals as goal
use Rattle.book_lines.proofs.Cutting.{placed_form, placed_free}

pub returns-in-Some : goal.returns-in-Some
returns-in-Some c = (
  (λ h. placed_form _ c.in-Some.field-0.0.now c.in-Some.field-0.1.now c.in-Some.field-0.2.now c.in-Some.ensures (c.have_no_colon.ensures.0 h)),
  (λ h. c.have_no_colon.ensures.1 (placed_free h.0 _ h.1)),
)
