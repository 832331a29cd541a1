use Rattle.std.proofs.Common.{arith}
use Rattle.std.proofs.lemmas.Int.{ints}
use Rattle.lane_clear.proofs.Barred.{none_lowered, lowered_more, all_lowered}
use Rattle.lane_clear.proofs.barriers.add_cell.Goals as goal

pub loop-lane-init : goal.loop-lane-init
loop-lane-init c = none_lowered _ _ _

pub loop-lane-preserved : goal.loop-lane-preserved
loop-lane-preserved c = lowered_more _ _ _ c.args.cell _ _ _ _ (omega (arith, ints)) (omega (arith, ints)) (omega (arith, ints)) c.loop-lane.invariant c.in_ok-lower.ensures

pub returns : goal.returns
returns c = all_lowered _ _ c.args.cell _ _ (omega (arith, ints)) (omega (arith, ints)) c.loop-lane.invariant
