use Rattle.std.proofs.Common.{sym, ◌+◌}
use Rattle.text_lines.specs.Blanks.{is_blank_byte}
use Rattle.rle_items.specs.FirstLaws.{none_passes}
use Rattle.std.proofs.lemmas.List.{take_rest}
use Rattle.life_rle.proofs.Placing.{word_at}
use Rattle.life_rle.proofs.place.split_word.Goals as goal

pub returns-in-Some-clause-some : goal.returns-in-Some-clause-some
returns-in-Some-clause-some c = rw (take_rest c.args.line.now (c.in-Some.at + 1)) (word_at c.args.line.now c.in-Some.at (sym c.in-Some.ensures))

pub returns-in-None-clause-none : goal.returns-in-None-clause-none
returns-in-None-clause-none c = none_passes is_blank_byte c.args.line.now (sym c.in-None.ensures)
