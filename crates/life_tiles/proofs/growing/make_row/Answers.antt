use Rattle.life_tiles.proofs.Bits.{some_bit}
use Rattle.life_tiles.proofs.Grown.{has_more}
use Rattle.life_tiles.proofs.Rooms.{makes_both}
use Rattle.life_tiles.proofs.growing.make_row.Goals as goal

pub returns-clause-here : goal.returns-clause-here
returns-clause-here c k live = has_more _ _ _ _ c.make_sides.ensures.makes (c.in_ok-make_if.ensures.there (some_bit c.args.word k live))

pub returns-in_err-make_sides-clause-makes : goal.returns-in_err-make_sides-clause-makes
returns-in_err-make_sides-clause-makes c = makes_both _ _ _ c.make_if.ensures.makes c.make_sides.ensures.makes

pub returns-clause-makes : goal.returns-clause-makes
returns-clause-makes c = makes_both _ _ _ c.make_if.ensures.makes c.make_sides.ensures.makes
