use Rattle.std.proofs.Common.{suc, ◌∙◌}
use Rattle.life_kernel.specs.Words.{spread, next_bit}
use Rattle.life_kernel.proofs.Adder.{network_is_rule}
use Rattle.life_kernel.specs.BitLaws.{own_word}
use Rattle.life_kernel.proofs.Words.{network_at}
use Rattle.life_kernel.proofs.row.next_word.Goals as goal

pub returns : goal.returns
unfolding spread next_bit
returns c = record {
  bits = λ k h.
      let above = c.args.above in
      let here = c.args.here in
      let below = c.args.below in
      network_at k _ _ _ _ _ _ _ _ _ _ _ _ _ _ _ _ _ _
      (c.western-x.ensures _ k h) (own_word above.here _ _ k h) (c.eastern-z.ensures _ k h)
      (c.western-x-2.ensures _ k h) (c.eastern-y.ensures _ k h)
      (c.western-x-3.ensures _ k h) (own_word below.here _ _ k h) (c.eastern-z-2.ensures _ k h)
      (own_word here.here _ _ k h)
      ∙ network_is_rule (spread above k) (spread above (suc k)) (spread above (suc (suc k))) (spread here k) (spread here (suc (suc k))) (spread below k) (spread below (suc k)) (spread below (suc (suc k))) (spread here (suc k));
}
