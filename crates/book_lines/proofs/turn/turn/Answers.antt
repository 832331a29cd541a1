use Rattle.std.proofs.Common.{rules}
use Rattle.book_lines.specs.Lines.{texts}
use Rattle.book_lines.proofs.turn.turn.Goals as goal
use mir.Syntax.{w64}
use Rattle.std.proofs.Common.{FitsSigned}
use Rattle.std.proofs.lemmas.Int.{to_z-of_z}
use Rattle.book_lines.proofs.Stating.{turn_stated, turn_unread}

pub returns-in_default-2-clause-turn : goal.returns-in_default-2-clause-turn
returns-in_default-2-clause-turn c =
    let parts = c.in-Some.parts in
    turn_unread _ parts.name.now parts.kind.now (texts parts.ending.now) (texts parts.delays.now) c.in-Some.ensures.some
    (λ turn h k. (rw c.in_default-2.is at c.in_ok-ending.ensures) (record { end = turn.end; n = turn.n }) h)

pub returns-in_default-3-clause-turn : goal.returns-in_default-3-clause-turn
returns-in_default-3-clause-turn c =
    let parts = c.in-Some.parts in
    turn_unread _ parts.name.now parts.kind.now (texts parts.ending.now) (texts parts.delays.now) c.in-Some.ensures.some
    (λ turn h k. (rw c.in_default-3.is at c.in_ok-delays.ensures.numbers) turn.delays k)

pub returns-clause-turn : goal.returns-clause-turn
returns-clause-turn c =
    let parts = c.in-Some.parts in
    let fits : FitsSigned w64 c.in-Some-2.ending.n = search rules in
    rw (to_z-of_z w64 c.in-Some-2.ending.n fits)
    (turn_stated _ parts.name.now parts.kind.now (texts parts.ending.now) (texts parts.delays.now) c.in-Some.ensures.some
    c.in_ok-from_text.field-0 c.in_ok-from_text-2.field-0 c.in-Some-2.ending.end c.in-Some-2.ending.n c.in-Some-3.delays
    c.in_ok-from_text.ensures c.in_ok-from_text-2.ensures (rw c.in-Some-2.is at c.in_ok-ending.ensures) (rw c.in-Some-3.is at c.in_ok-delays.ensures.numbers))
