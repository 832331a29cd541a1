use Rattle.std.proofs.Common.{arith}
use Rattle.std.proofs.lemmas.Int.{ints}
use Rattle.find_order.proofs.Delaying.{one_gap_more, gap_within}
use Rattle.find_order.proofs.delays.delays_by.Goals as goal

pub loop-gap-preserved : goal.loop-gap-preserved
loop-gap-preserved c =
    let gap = gap_within c.args.gaps.now c.loop-gap.gap-index c.requires.small c.loop-gap-test.true in
    let so_far = c.loop-gap.invariant in
    one_gap_more _ _ _ _ _ _ c.requires.small c.loop-gap-test.true c.loop-gap.invariant (omega (arith, ints)) c.in_ok-push-2.ensures.items
