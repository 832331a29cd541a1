use Rattle.std.proofs.Common.{arith}
use Rattle.std.proofs.lemmas.Int.{ints}
use Rattle.hand_route.specs.Ways.{ground}
use Rattle.lane_clear.specs.BaseLaws.{not_both}
use Rattle.hand_route.proofs.CarriedPlaces.{near_by, clear_there, not_new, not_clear, new_test, clear_by}
use Rattle.hand_route.proofs.ways.carries_on.Goals as goal

pub carried-requires-clause-by : goal.carried-requires-clause-by
carried-requires-clause-by c = near_by c.args.carrier c.requires.carrier.1

pub is_salvo_clear-requires-clause-place : goal.is_salvo_clear-requires-clause-place
is_salvo_clear-requires-clause-place c =
    let at = c.requires.at in
    record { x_low = omega (arith, ints); x_high = omega (arith, ints); y_low = omega (arith, ints); y_high = omega (arith, ints) }

pub returns-then-not-is_new-clause-no : goal.returns-then-not-is_new-clause-no
returns-then-not-is_new-clause-no c = λ _.
    let g = ground c.args.salvos.now c.args.built.now c.args.found.now.room in
    not_new g c.args.found.now.cells c.args.at c.args.carrier c.requires.carrier c.is_new.result (new_test g c.args.found.now.cells c.args.at c.carried.result c.args.carrier c.is_new.result c.carried.ensures c.is_new.ensures) c.if-not-is_new.true

pub returns-clause-yes : goal.returns-clause-yes
returns-clause-yes c = λ h.
    let g = ground c.args.salvos.now c.args.built.now c.args.found.now.room in
    let new = (new_test g c.args.found.now.cells c.args.at c.carried.result c.args.carrier c.is_new.result c.carried.ensures c.is_new.ensures).0 c.if-not-is_new.false in
    clear_there g c.args.found.now.cells c.args.at c.args.carrier c.salvo.result.now c.requires.carrier c.salvo.ensures new.0 new.1
    ((clear_by c.args.salvos.now c.args.built.now c.args.at c.settings.result.now c.salvo.result.now c.is_salvo_clear.result c.settings.ensures.same c.is_salvo_clear.ensures).0 h)

pub returns-clause-no : goal.returns-clause-no
returns-clause-no c = λ h.
    let g = ground c.args.salvos.now c.args.built.now c.args.found.now.room in
    not_clear g c.args.found.now.cells c.args.at c.args.carrier.number c.salvo.result.now c.salvo.ensures
    (λ clear. not_both h ((clear_by c.args.salvos.now c.args.built.now c.args.at c.settings.result.now c.salvo.result.now c.is_salvo_clear.result c.settings.ensures.same c.is_salvo_clear.ensures).1 clear))
