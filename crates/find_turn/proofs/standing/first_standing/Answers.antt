use Rattle.std.proofs.Common.{◌≡◌, ◌+◌, sym, subst, w64, to_z, of_z, arith}
use Rattle.std.proofs.lemmas.Int.{ints}
use Rattle.life_cells.specs.Cells.{alive}
use Rattle.find_turn.specs.Standing.{IsFirstStanding}
use Rattle.find_turn.proofs.KindsInOrder.{first_stands, none_more, none_stands}
use Rattle.find_turn.proofs.standing.first_standing.Goals as goal

pub returns-in-Some : goal.returns-in-Some
returns-in-Some c =
    let read : to_z w64 (of_z w64 c.in-Some.shift) ≡ c.in-Some.shift = omega (arith, ints) in
    subst (IsFirstStanding c.args.kinds.now (alive c.args.cells.now) (c.loop-place.place + 1)) (sym read)
    (first_stands c.args.kinds.now (alive c.args.cells.now) c.loop-place.place c.index-kinds-place.result c.in-Some.shift c.loop-place-test.true c.index-kinds-place.is c.loop-place.invariant c.in-Some.ensures)

pub loop-place-preserved : goal.loop-place-preserved
loop-place-preserved c =
    none_more c.args.kinds.now (alive c.args.cells.now) c.loop-place.place c.index-kinds-place.result c.loop-place-test.true c.index-kinds-place.is c.loop-place.invariant c.in_default.ensures

pub returns : goal.returns
returns c = none_stands c.args.kinds.now (alive c.args.cells.now) c.loop-place.place c.loop-place-test.false c.loop-place.invariant
