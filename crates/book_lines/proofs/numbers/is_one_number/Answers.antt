use Rattle.book_lines.proofs.numbers.is_one_number.Goals as goal
use Rattle.book_lines.proofs.Pieces.{one_form, one_shown}

pub returns-in-Some : goal.returns-in-Some
returns-in-Some c = (
  (λ h. one_form _ c.in-Some.text.now c.in-Some.ensures (c.may_stand.ensures.0 h)),
  (λ h. c.may_stand.ensures.1 (one_shown _ c.in-Some.text.now c.in-Some.ensures h)),
)
