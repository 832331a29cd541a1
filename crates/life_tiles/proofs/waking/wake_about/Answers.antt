use Rattle.std.proofs.Common.{◌∙◌, arith}
use Rattle.life_tiles.proofs.Woken.{wakes_both, row_stays, row_along}
use Rattle.life_tiles.proofs.waking.wake_about.Goals as goal

pub returns : goal.returns
returns c =
    let first = c.wake_row.ensures.only in
    let second = c.wake_row-2.ensures.only in
    let third = c.wake_row-3.ensures.only in
    record {
      only = wakes_both _ _ _ first (wakes_both _ _ _ second third);
      above = λ h. row_stays _ _ _ _ _ _ _ _ (wakes_both _ _ _ second third) (c.wake_row.ensures.awake 63 (c.above.ensures h));
      middle = λ r s h below up low. row_stays _ _ _ _ _ _ _ _ third (row_along _ _ _ _ _ _ _ _ first.long (c.wake_row-2.ensures.awake s (c.around.ensures r s h (omega arith) below up low)));
      below = λ h. row_along _ _ _ _ _ _ _ _ (second.long ∙ first.long) (c.wake_row-3.ensures.awake 0 (c.below.ensures h));
    }
