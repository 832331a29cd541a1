use Rattle.life_rle.proofs.Headers.{none_by, no_value}
use Rattle.life_rle.proofs.header.skip_value.Goals as goal

pub returns-in_err-skip_part-clause-none : goal.returns-in_err-skip_part-clause-none
returns-in_err-skip_part-clause-none c = rw c.from_residual.ensures (λ rest v. c.in_err-skip_part.ensures.none v.at_number v.sign)

pub returns-clause-none : goal.returns-clause-none
returns-clause-none c = none_by _ _ c.skip_number.result (λ none rest v. no_value c.args.line.now c.in_ok-skip_part.field-0.now c.in_ok-skip_part.ensures.some none rest v) c.skip_number.ensures.none
