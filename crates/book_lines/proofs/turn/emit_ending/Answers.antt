use Rattle.std.proofs.Common.{rules, ◌∷◌, subst, sym, ◌∙◌}
use Rattle.book_lines.specs.Lines.{texts}
use Rattle.book_lines.proofs.turn.emit_ending.Goals as goal
use mir.Syntax.{w64}
use Rattle.std.proofs.Common.{FitsSigned}
use Rattle.std.proofs.lemmas.Int.{to_z-of_z}
use Rattle.book_parts.specs.Limits.{IsName}
use Rattle.book_lines.proofs.Drawing.{small_fits}
use Rattle.book_lines.proofs.Cutting.{emit_numbers}

pub returns-in_default-two_numbers : goal.returns-in_default-two_numbers
returns-in_default-two_numbers c = λ e h.
    let s = c.in-Some.next in
    let numbers = emit_numbers _ s.kind.now s.shift.now s.n.now (texts s.more.now) c.in-Some.ensures.some.0 e.end e.n h in
    c.in_default-two_numbers.ensures.numbers (numbers.1.0, e.n) numbers.1.1

pub returns-in_default-pair : goal.returns-in_default-pair
returns-in_default-pair c = λ e h.
    let s = c.in-Some.next in
    let numbers = emit_numbers _ s.kind.now s.shift.now s.n.now (texts s.more.now) c.in-Some.ensures.some.0 e.end e.n h in
    c.in_default-pair.ensures numbers.0.0 numbers.0.1

pub returns : goal.returns
returns c =
    let s = c.in-Some.next in
    let shift = c.in-Some-two_numbers.shift in
    let n = c.in-Some-two_numbers.n in
    let x = c.in-Some-pair.glider.x in
    let y = c.in-Some-pair.glider.y in
    let small = c.in-Some-two_numbers.ensures.small in
    let numbers = c.in-Some-two_numbers.ensures.numbers in
    let fits_x : FitsSigned w64 x = search rules in
    let fits_y : FitsSigned w64 y = search rules in
    rw (to_z-of_z w64 shift (small_fits shift small.0), to_z-of_z w64 n (small_fits n small.1), to_z-of_z w64 x fits_x, to_z-of_z w64 y fits_y) (
      texts s.more.now,
      (
        record {
          text_shift = s.shift.now;
          text_n = s.n.now;
          items_are = c.in-Some.ensures.some.0 ∙ (λ i. (sym c.in_ok-kind.ensures i) ∷ (s.shift.now ∷ (s.n.now ∷ texts s.more.now)));
          name_is = subst IsName (sym c.in_ok-kind.ensures) c.in-Some.ensures.some.1;
          number_shift = numbers.0;
          number_n = numbers.1;
        },
        c.in-Some-pair.ensures,
      ),
    )
