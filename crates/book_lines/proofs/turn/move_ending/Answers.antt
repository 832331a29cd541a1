use Rattle.std.proofs.Common.{◌∷◌, subst, sym, ◌∙◌}
use Rattle.book_lines.specs.Lines.{texts}
use Rattle.book_lines.proofs.turn.move_ending.Goals as goal
use Rattle.book_lines.proofs.Pieces.{none_texts, not_none}
use mir.Syntax.{w64}
use Rattle.std.proofs.lemmas.Int.{to_z-of_z}
use Rattle.book_parts.specs.Limits.{IsName}
use Rattle.book_lines.proofs.Drawing.{small_fits}
use Rattle.book_lines.proofs.Cutting.{move_numbers}

pub returns-then-not-is_empty : goal.returns-then-not-is_empty
returns-then-not-is_empty c = λ e h.
    let s = c.in-Some.next in
    not_none s.more.now c.if-not-is_empty.ensures (move_numbers _ s.kind.now s.shift.now s.n.now (texts s.more.now) c.in-Some.ensures.some.0 e.end e.n h).0

pub returns-in_default-two_numbers : goal.returns-in_default-two_numbers
returns-in_default-two_numbers c = λ e h.
    let s = c.in-Some.next in
    let numbers = move_numbers _ s.kind.now s.shift.now s.n.now (texts s.more.now) c.in-Some.ensures.some.0 e.end e.n h in
    c.in_default-two_numbers.ensures.numbers (numbers.1.0, e.n) numbers.1.1

pub returns : goal.returns
returns c =
    let s = c.in-Some.next in
    let shift = c.in-Some-two_numbers.shift in
    let n = c.in-Some-two_numbers.n in
    let small = c.in-Some-two_numbers.ensures.small in
    let numbers = c.in-Some-two_numbers.ensures.numbers in
    rw (to_z-of_z w64 shift (small_fits shift small.0), to_z-of_z w64 n (small_fits n small.1)) (record {
      text_shift = s.shift.now;
      text_n = s.n.now;
      items_are = c.in-Some.ensures.some.0 ∙ (λ i. (sym c.in_ok-kind.ensures i) ∷ (s.shift.now ∷ (s.n.now ∷ none_texts s.more.now c.if-not-is_empty.ensures i)));
      name_is = subst IsName (sym c.in_ok-kind.ensures) c.in-Some.ensures.some.1;
      number_shift = numbers.0;
      number_n = numbers.1;
    })
