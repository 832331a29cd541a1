use Rattle.std.proofs.Common.{arith}
use Rattle.std.proofs.lemmas.Int.{ints}
use Rattle.std.proofs.lemmas.Option.{slice_get-get_or}
use Rattle.lane_clear.specs.BaseLaws.{not_both}
use Rattle.hand_route.proofs.CarriedPlaces.{none_takes_yet, one_more_fails, first_takes, none_takes, clear_by}
use Rattle.hand_route.proofs.ways.first_taker.Goals as goal

pub loop-number-init : goal.loop-number-init
loop-number-init c = none_takes_yet _ _ _ _

pub salvo-requires : goal.salvo-requires
salvo-requires c =
    let item = c.takers-number-items.ensures.each c.loop-number.number-index _ (slice_get-get_or _ c.loop-number.number-index 0 c.loop-number-test.true) in
    (item.salvo, item.numbered)

pub is_salvo_clear-requires-clause-place : goal.is_salvo_clear-requires-clause-place
is_salvo_clear-requires-clause-place c =
    let at = c.requires in
    record { x_low = omega (arith, ints); x_high = omega (arith, ints); y_low = omega (arith, ints); y_high = omega (arith, ints) }

pub returns-then-is_salvo_clear : goal.returns-then-is_salvo_clear
returns-then-is_salvo_clear c =
    first_takes c.args.salvos.now c.args.built.now c.args.at _ c.loop-number.number-index _ c.salvo.result.now c.takers-number-items.ensures c.loop-number.invariant (slice_get-get_or _ c.loop-number.number-index 0 c.loop-number-test.true)
    c.salvo.ensures ((clear_by c.args.salvos.now c.args.built.now c.args.at c.settings.result.now c.salvo.result.now c.is_salvo_clear.result c.settings.ensures.same c.is_salvo_clear.ensures).0 c.if-is_salvo_clear.true)

pub loop-number-preserved : goal.loop-number-preserved
loop-number-preserved c =
    one_more_fails c.args.salvos.now c.args.built.now c.args.at _ c.loop-number.number-index _ c.salvo.result.now c.loop-number.invariant (slice_get-get_or _ c.loop-number.number-index 0 c.loop-number-test.true) c.salvo.ensures
    (λ clear. not_both c.if-is_salvo_clear.false ((clear_by c.args.salvos.now c.args.built.now c.args.at c.settings.result.now c.salvo.result.now c.is_salvo_clear.result c.settings.ensures.same c.is_salvo_clear.ensures).1 clear))

pub returns : goal.returns
returns c = none_takes c.args.salvos.now c.args.built.now c.args.at _ c.loop-number.number-index c.takers-number-items.ensures c.loop-number.invariant c.loop-number-test.false
