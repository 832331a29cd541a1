use Rattle.book_lines.specs.Lines.{texts}
use Rattle.book_lines.proofs.turn.is_emit.Goals as goal
use Rattle.book_lines.proofs.Cutting.{emit_form, emit_shown}

pub returns-then-is_pair : goal.returns-then-is_pair
returns-then-is_pair c =
    let s = c.in-Some.next in
    let some = c.in-Some.ensures.some in (
      (λ h. let stand = c.may_stand.ensures.0 h in emit_form _ s.kind.now s.shift.now s.n.now (texts s.more.now) some.0 some.1 (c.is_pair.ensures.0 c.if-is_pair.true) stand.0 stand.1),
      (λ h. c.may_stand.ensures.1 (emit_shown _ s.kind.now s.shift.now s.n.now (texts s.more.now) some.0 h.0 h.1.0 h.1.1).1),
    )

pub returns-else-is_pair : goal.returns-else-is_pair
returns-else-is_pair c =
    let s = c.in-Some.next in (
      (λ h. absurd (cc (h, c.if-is_pair.false))),
      (λ h. c.is_pair.ensures.1 (emit_shown _ s.kind.now s.shift.now s.n.now (texts s.more.now) c.in-Some.ensures.some.0 h.0 h.1.0 h.1.1).0),
    )
