use Rattle.std.proofs.Common.{arith}
use Rattle.std.proofs.lemmas.Option.{slice_get-get_or}
use Rattle.hand_route.specs.Ways.{ground}
use Rattle.hand_route.proofs.CarriedPlaces.{some_carrier, carrier_there, none_tried, one_more_tried, next_is, none_is}
use Rattle.hand_route.proofs.ways.next_carrier.Goals as goal
use Rattle.hand_route.proofs.ways.next_carrier.Goals.{else-carrier-tried-via-then-carrier-tried+else-carries_on, else-carrier-tried-via-else-carrier-tried}

pub loop-carrier-init : goal.loop-carrier-init
loop-carrier-init c = none_tried _ _ _ _ _

pub carries_on-requires-clause-carrier : goal.carries_on-requires-clause-carrier
carries_on-requires-clause-carrier c = carrier_there _ _ c.loop-carrier.carrier-index c.carriers-carrier-items.ensures c.loop-carrier-test.true

pub returns-then-carries_on-clause-some : goal.returns-then-carries_on-clause-some
returns-then-carries_on-clause-some c =
    next_is (ground c.args.salvos.now c.args.built.now c.args.found.now.room) _ c.args.at c.args.tried _ c.loop-carrier.carrier-index _ c.carriers-carrier-items.ensures c.loop-carrier.invariant
    (slice_get-get_or _ c.loop-carrier.carrier-index some_carrier c.loop-carrier-test.true) c.if-carrier-tried.true (c.carries_on.ensures.yes c.if-carries_on.true)

pub loop-carrier-preserved : goal.loop-carrier-preserved
loop-carrier-preserved c =
    let here = slice_get-get_or _ c.loop-carrier.carrier-index some_carrier c.loop-carrier-test.true in
    elim c.else-carrier-tried.branch [
      | else-carrier-tried-via-then-carrier-tried+else-carries_on w ↦ one_more_tried (ground c.args.salvos.now c.args.built.now c.args.found.now.room) _ c.args.at c.args.tried _ c.loop-carrier.carrier-index _ c.loop-carrier.invariant here
          (λ up. w.carries_on.ensures.no w.if-carries_on.false)
      | else-carrier-tried-via-else-carrier-tried w ↦ one_more_tried (ground c.args.salvos.now c.args.built.now c.args.found.now.room) _ c.args.at c.args.tried _ c.loop-carrier.carrier-index _ c.loop-carrier.invariant here
          (λ up. let low = w.if-carrier-tried.false in absurd (omega arith))
    ]

pub returns-clause-none : goal.returns-clause-none
returns-clause-none c = none_is (ground c.args.salvos.now c.args.built.now c.args.found.now.room) _ c.args.at c.args.tried _ c.loop-carrier.carrier-index c.carriers-carrier-items.ensures c.loop-carrier.invariant c.loop-carrier-test.false
