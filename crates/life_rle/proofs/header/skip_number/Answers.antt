use Rattle.std.proofs.Common.{inl, inr, length, sym, ◌∙◌}
use Rattle.std.proofs.lemmas.Bool.{eqb-true}
use Rattle.life_rle.proofs.Headers.{no_number}
use Rattle.life_rle.proofs.header.skip_number.Goals as goal

pub returns-then-digits-gt-MOST_DIGITS-clause-none : goal.returns-then-digits-gt-MOST_DIGITS-clause-none
returns-then-digits-gt-MOST_DIGITS-clause-none c =
    no_number c.args.line.now c.skip_blanks.result.now c.split_digits.result.0.now c.split_digits.result.1.now c.skip_blanks.ensures c.split_digits.ensures
    (elim c.if-digits-gt-MOST_DIGITS.either [
      | inl h ↦ inl (eqb-true (length c.split_digits.result.0.now) 0 (sym c.is_empty.ensures ∙ h))
      | inr h ↦ inr h.1
    ])
