use Rattle.book_lines.proofs.numbers.is_pair.Goals as goal
use Rattle.book_lines.proofs.Pieces.{pair_form, pair_shown}

pub returns-then-may_stand : goal.returns-then-may_stand
returns-then-may_stand c =
    let x = c.in-Some.x.now in
    let y = c.in-Some.y.now in (
      (λ h. pair_form _ x y c.in-Some.ensures (c.may_stand.ensures.0 c.if-may_stand.true) (c.may_stand-then-may_stand.ensures.0 h)),
      (λ h. c.may_stand-then-may_stand.ensures.1 (pair_shown _ x y c.in-Some.ensures h).1),
    )

pub returns-else-may_stand : goal.returns-else-may_stand
returns-else-may_stand c =
    ((λ h. absurd (cc (h, c.if-may_stand.false))), (λ h. c.may_stand.ensures.1 (pair_shown _ c.in-Some.x.now c.in-Some.y.now c.in-Some.ensures h).0))
