use Rattle.std.proofs.Common.{arith}
use Rattle.life_tiles.proofs.Woken.{all_more}
use Rattle.life_tiles.proofs.waking.wake_all.Goals as goal

pub loop-index-preserved : goal.loop-index-preserved
loop-index-preserved c = all_more _ _ _ (omega arith) (λ row h. record { from = omega arith; to = h }) c.loop-index.invariant

pub returns : goal.returns
returns c = λ i row lt h. c.loop-index.invariant i row (omega arith) h
