use Rattle.std.proofs.Common.{sym, refl}
use Rattle.rle_items.specs.Spelling.{is_white}
use Rattle.rle_items.specs.FirstLaws.{run_before, run_whole}
use Rattle.rle_items.proofs.Fronts.{past_white}
use Rattle.rle_items.proofs.gaps.skip_white.Goals as goal

pub returns-in-Some : goal.returns-in-Some
returns-in-Some c = rw c.split_at.ensures.back (past_white c.args.rest.now _ _ (run_before is_white c.args.rest.now c.in-Some.many (sym c.in-Some.ensures)))

pub returns-in-None : goal.returns-in-None
returns-in-None c = rw c.split_at-in-None.ensures.back (past_white c.args.rest.now _ _ (run_whole is_white c.args.rest.now _ refl (sym c.in-None.ensures)))
