use Rattle.std.proofs.Common.{◌+◌, [], refl, sym}
use Rattle.std.proofs.lemmas.List.{take_rest}
use Rattle.text_lines.proofs.Cut.{cut_at_feed, cut_at_end}
use Rattle.text_lines.proofs.first_line.split_line.Goals as goal

pub returns-in-Some-clause-lines : goal.returns-in-Some-clause-lines
returns-in-Some-clause-lines c = rw (take_rest c.args.text.now (c.in-Some.end + 1)) (cut_at_feed c.args.text.now c.without_return.result.now c.in-Some.end (sym c.in-Some.ensures) c.without_return.ensures c.requires)

pub returns-in-None-clause-lines : goal.returns-in-None-clause-lines
returns-in-None-clause-lines c = cut_at_end c.args.text.now c.args.text.now [] (sym c.in-None.ensures) refl refl c.requires
