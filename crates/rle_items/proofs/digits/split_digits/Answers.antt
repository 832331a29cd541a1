use Rattle.std.proofs.Common.{sym, refl}
use Rattle.std.specs.Char.{is_ascii_digit}
use Rattle.rle_items.specs.FirstLaws.{run_before, run_whole}
use Rattle.rle_items.specs.NumberLaws.{count_of_run}
use Rattle.rle_items.proofs.digits.split_digits.Goals as goal

pub returns-in-Some : goal.returns-in-Some
returns-in-Some c = rw (c.split_at.ensures.front, c.split_at.ensures.back) (count_of_run _ _ _ (run_before is_ascii_digit c.args.bytes.now c.in-Some.many (sym c.in-Some.ensures)))

pub returns-in-None : goal.returns-in-None
returns-in-None c = rw (c.split_at-in-None.ensures.front, c.split_at-in-None.ensures.back) (count_of_run _ _ _ (run_whole is_ascii_digit c.args.bytes.now _ refl (sym c.in-None.ensures)))
