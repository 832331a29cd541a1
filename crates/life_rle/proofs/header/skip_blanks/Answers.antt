use Rattle.std.proofs.Common.{sym, refl}
use Rattle.text_lines.specs.Blanks.{is_blank_byte}
use Rattle.rle_items.specs.FirstLaws.{run_before, run_whole}
use Rattle.life_rle.proofs.Headers.{past_blanks}
use Rattle.life_rle.proofs.header.skip_blanks.Goals as goal

pub returns-in-Some : goal.returns-in-Some
returns-in-Some c = rw c.split_at.ensures.back (past_blanks c.args.line.now _ _ (run_before is_blank_byte c.args.line.now c.in-Some.many (sym c.in-Some.ensures)))

pub returns-in-None : goal.returns-in-None
returns-in-None c = rw c.split_at-in-None.ensures.back (past_blanks c.args.line.now _ _ (run_whole is_blank_byte c.args.line.now _ refl (sym c.in-None.ensures)))
