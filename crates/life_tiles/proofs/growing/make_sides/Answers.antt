use Rattle.life_tiles.proofs.Bits.{first_bit, last_bit}
use Rattle.life_tiles.proofs.Grown.{has_more}
use Rattle.life_tiles.proofs.Rooms.{makes_both}
use Rattle.life_tiles.proofs.growing.make_sides.Goals as goal

pub returns-clause-west : goal.returns-clause-west
returns-clause-west c live = has_more _ _ _ _ c.make_if-2.ensures.makes (c.in_ok-make_if.ensures.there (first_bit c.args.word live))

pub returns-clause-east : goal.returns-clause-east
returns-clause-east c live = c.in_ok-make_if-2.ensures.there (last_bit c.args.word live)

pub returns-in_err-make_if-2-clause-makes : goal.returns-in_err-make_if-2-clause-makes
returns-in_err-make_if-2-clause-makes c = makes_both _ _ _ c.make_if.ensures.makes c.make_if-2.ensures.makes

pub returns-clause-makes : goal.returns-clause-makes
returns-clause-makes c = makes_both _ _ _ c.make_if.ensures.makes c.make_if-2.ensures.makes
