use Rattle.std.proofs.Common.{◌∙◌, pos, subst, sym, ap, refl}
use Rattle.life_plane.specs.ListLaws.{each_at}
use Rattle.book_parts.specs.Proper.{IsDelay}
use Rattle.recipe_turn.proofs.Delays.{own_here, own_later, own_none}
use Rattle.recipe_turn.proofs.own_gliders.is_own.Goals as goal
use Rattle.book_parts.specs.LimitLaws.{delay_read}
use Rattle.recipe_turn.specs.Gliders.{own}

pub loop-delay-init : goal.loop-delay-init
loop-delay-init c = refl

pub glider_has-requires-clause-delay : goal.glider_has-requires-clause-delay
glider_has-requires-clause-delay c =
    let here = each_at IsDelay c.args.delays.now c.requires.delays c.loop-delay.delay-index (pos 0) c.loop-delay-test.true in
    subst IsDelay (sym (delay_read _ here)) here

pub returns-then-glider_has : goal.returns-then-glider_has
returns-then-glider_has c =
    let here = each_at IsDelay c.args.delays.now c.requires.delays c.loop-delay.delay-index (pos 0) c.loop-delay-test.true in
    sym (c.loop-delay.invariant ∙ own_here c.args.settings.now c.args.delays.now (pos c.args.t) c.args.cell.x c.args.cell.y c.loop-delay.delay-index (pos 0) _ c.loop-delay-test.true
    (c.glider_has.ensures ∙ ap (λ z. own c.args.settings.now (pos c.args.t) z c.args.cell.x c.args.cell.y) (delay_read _ here)) c.if-glider_has.true)

pub loop-delay-preserved : goal.loop-delay-preserved
loop-delay-preserved c =
    let here = each_at IsDelay c.args.delays.now c.requires.delays c.loop-delay.delay-index (pos 0) c.loop-delay-test.true in
    c.loop-delay.invariant ∙ own_later c.args.settings.now c.args.delays.now (pos c.args.t) c.args.cell.x c.args.cell.y c.loop-delay.delay-index (pos 0) _ c.loop-delay-test.true
    (c.glider_has.ensures ∙ ap (λ z. own c.args.settings.now (pos c.args.t) z c.args.cell.x c.args.cell.y) (delay_read _ here)) c.if-glider_has.false

pub returns : goal.returns
returns c = sym (c.loop-delay.invariant ∙ own_none c.args.settings.now c.args.delays.now (pos c.args.t) c.args.cell.x c.args.cell.y c.loop-delay.delay-index c.loop-delay-test.false)
