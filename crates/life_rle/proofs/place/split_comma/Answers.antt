use Rattle.std.proofs.Common.{sym, ◌+◌}
use Rattle.std.proofs.lemmas.List.{take_rest}
use Rattle.life_rle.proofs.Placing.{comma_at, no_comma_at}
use Rattle.life_rle.proofs.place.split_comma.Goals as goal

pub returns-in-Some-clause-some : goal.returns-in-Some-clause-some
returns-in-Some-clause-some c = rw (take_rest c.args.bytes.now (c.in-Some.at + 1)) (comma_at c.args.bytes.now c.in-Some.at (sym c.in-Some.ensures))

pub returns-in-None-clause-none : goal.returns-in-None-clause-none
returns-in-None-clause-none c = no_comma_at c.args.bytes.now (sym c.in-None.ensures)
