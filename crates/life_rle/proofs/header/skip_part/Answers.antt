use Rattle.life_rle.proofs.Headers.{none_by, part_behind}
use Rattle.life_rle.proofs.header.skip_part.Goals as goal

pub returns-clause-none : goal.returns-clause-none
returns-clause-none c = none_by _ _ c.skip.result (λ none rest p. none rest (part_behind c.args.part.now c.args.line.now c.skip_blanks.result.now rest c.requires c.skip_blanks.ensures p)) c.skip.ensures.none
