use Rattle.std.proofs.Common.{ℤ, ◌-ℤ◌, pos, arith, w64, to_z, of_z}
use Rattle.std.proofs.lemmas.Int.{ints}
use Rattle.life_gliders.proofs.FirstCells.{starts}
use Rattle.life_gliders.proofs.finding.starting_at.Goals as goal

pub overflow_sub-lane-2 : goal.overflow_sub-lane-2
overflow_sub-lane-2 c = omega (arith, ints, c.from.ensures, c.from-2.ensures)

pub returns-clause-start : goal.returns-clause-start
returns-clause-start c =
    let q : ℤ = to_z w64 (of_z w64 (to_z w64 (of_z w64 (pos 0 -ℤ to_z w64 (of_z w64 c.args.first.y))) -ℤ to_z w64 (of_z w64 c.from.result))) in
    starts c.args.first c.args.number _ _ q _ _ c.first_at_rest-x.ensures (omega (arith, ints, c.from.ensures, c.from-2.ensures)) (omega (arith, ints, c.from.ensures, c.from-2.ensures)) (omega (arith, ints, c.from.ensures, c.from-2.ensures))

pub returns-clause-lane_low : goal.returns-clause-lane_low
returns-clause-lane_low c = omega (arith, ints, c.from.ensures, c.from-2.ensures)

pub returns-clause-lane_high : goal.returns-clause-lane_high
returns-clause-lane_high c = omega (arith, ints, c.from.ensures, c.from-2.ensures)
