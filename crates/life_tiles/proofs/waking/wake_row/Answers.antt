use Rattle.std.proofs.Common.{refl, arith}
use Rattle.life_tiles.proofs.Bits.{first_bit, last_bit}
use Rattle.life_tiles.proofs.Woken.{wakes_none, wakes_both}
use Rattle.life_tiles.proofs.waking.wake_row.Goals as goal

pub returns-then-is_empty : goal.returns-then-is_empty
returns-then-is_empty c = record {
  only = wakes_none c.args.waking.now;
  awake = λ row h. let none = c.if-is_empty.ensures.0 refl in let from = h.from in let to = h.to in absurd (omega arith);
}

pub returns : goal.returns
returns c =
    let first = c.wake_if.ensures.wakes in
    let second = c.wake_if-2.ensures.wakes in
    let third = c.wake_if-3.ensures.wakes in
    record {
      only = wakes_both _ _ _ first (wakes_both _ _ _ second third);
      awake = λ row h. record {
        on_west = λ t lt. third.each c.args.west row (second.each c.args.west row (c.wake_if.ensures.awake (first_bit c.args.columns t) lt row h));
        on_here = λ lt. third.each c.args.here row (c.wake_if-2.ensures.awake refl (let long = first.long in omega arith) row h);
        on_east = λ t lt. c.wake_if-3.ensures.awake (last_bit c.args.columns t) (let long = first.long in let more = second.long in omega arith) row h;
      };
    }
