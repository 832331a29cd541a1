use Rattle.std.proofs.Common.{arith}
use Rattle.std.proofs.lemmas.Int.{ints}
use Rattle.life_cells.specs.Cells.{alive}
use Rattle.life_cells.specs.BoxRangeLaws.{box_in_range}
use Rattle.life_target.proofs.NoCells.{empty_is_narrow}
use Rattle.life_target.proofs.target.test_side.Goals as goal

pub returns-in-None-clause-narrow : goal.returns-in-None-clause-narrow
returns-in-None-clause-narrow c = empty_is_narrow _ c.in-None.ensures.none

pub side_of-side-requires : goal.side_of-side-requires
side_of-side-requires c =
    let least = c.in-Some.ensures.some in
    let here = least.holds.each least.lives.0 least.lives.1.0 least.lives.1.1 in
    record { columns = omega (arith, ints, here.right_of_left, here.left_of_right); range = box_in_range _ _ (alive c.args.cells.now) least c.requires }
