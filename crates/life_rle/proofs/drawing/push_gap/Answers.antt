-- The gap is the way on in the row, or the way down.
use Rattle.std.proofs.Common.{arith}
use Rattle.std.proofs.lemmas.Int.{ints}
use Rattle.std.proofs.lemmas.Result.{on_ok_weaker}
use Rattle.life_rle.proofs.Growing.{added_in_row, added_down}
use Rattle.life_rle.proofs.drawing.push_gap.Goals as goal

pub returns-then-from-to : goal.returns-then-from-to
returns-then-from-to c =
    let h = c.if-from-to.true in
    let n = c.requires.next in
    let right = n.right in let x = n.x_high in let y = n.y_high in
    on_ok_weaker c.push_some.result (λ e. added_down c.args.left c.args.from c.args.to _ _ c.args.items.now.items c.push.new.self.items _ (omega (arith, ints)) c.in_ok-push.ensures.items e (omega (arith, ints)) (omega (arith, ints))) c.push_some.ensures

pub returns : goal.returns
returns c =
    let h = c.if-from-to.false in
    let n = c.requires.next in
    let right = n.right in let x = n.x_high in let y = n.y_high in
    added_in_row c.args.left c.args.from c.args.to _ c.args.items.now.items _ c.requires.apart (omega (arith, ints)) c.in_ok-push-2.ensures.items (λ b. omega (arith, ints))
