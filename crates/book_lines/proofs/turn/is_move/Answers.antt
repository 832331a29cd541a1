use Rattle.book_lines.specs.Lines.{texts}
use Rattle.book_lines.proofs.turn.is_move.Goals as goal
use Rattle.book_lines.proofs.Pieces.{none_texts, not_none}
use Rattle.book_lines.proofs.Cutting.{move_form, move_shown}

pub returns-then-is_empty : goal.returns-then-is_empty
returns-then-is_empty c =
    let s = c.in-Some.next in
    let some = c.in-Some.ensures.some in (
      (λ h. let stand = c.may_stand.ensures.0 h in move_form _ s.kind.now s.shift.now s.n.now (texts s.more.now) some.0 some.1 (none_texts s.more.now c.if-is_empty.ensures) stand.0 stand.1),
      (λ h. c.may_stand.ensures.1 (move_shown _ s.kind.now s.shift.now s.n.now (texts s.more.now) some.0 h.0 h.1.0 h.1.1).1),
    )

pub returns-else-is_empty : goal.returns-else-is_empty
returns-else-is_empty c =
    let s = c.in-Some.next in (
      (λ h. absurd (cc (h, c.if-is_empty.false))),
      (λ h. absurd (not_none s.more.now c.if-is_empty.ensures (move_shown _ s.kind.now s.shift.now s.n.now (texts s.more.now) c.in-Some.ensures.some.0 h.0 h.1.0 h.1.1).0)),
    )
