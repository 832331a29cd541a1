use Rattle.std.proofs.Common.{◌∙◌, sym, subst, ap, pos}
use Rattle.life_plane.specs.PlaneLaws.{union_none}
use Rattle.life_plane.specs.ListLaws.{each_at}
use Rattle.life_plane.specs.Plane.{union}
use Rattle.recipe_turn.specs.Turn.{gliders}
use Rattle.life_cells.specs.Listed.{listed}
use Rattle.book_parts.specs.Proper.{IsDelay}
use Rattle.book_parts.specs.LimitLaws.{delay_read}
use Rattle.recipe_turn.specs.Gliders.{own}
use Rattle.stream_time.proofs.Gliding.{time_read, one_more, all_there}
use Rattle.stream_time.proofs.gliders.push_gliders.Goals as goal

pub loop-delay-init : goal.loop-delay-init
loop-delay-init c = sym (union_none _)

pub glider_at-requires-clause-delay : goal.glider_at-requires-clause-delay
glider_at-requires-clause-delay c =
    let here = each_at IsDelay c.args.delays.now c.requires.delays c.loop-delay.delay-index (pos 0) c.loop-delay-test.true in
    subst IsDelay (sym (delay_read _ here)) here

pub loop-delay-preserved : goal.loop-delay-preserved
loop-delay-preserved c =
    let here = each_at IsDelay c.args.delays.now c.requires.delays c.loop-delay.delay-index (pos 0) c.loop-delay-test.true in
    one_more _ c.args.settings.now c.args.delays.now _ c.loop-delay.delay-index (pos 0) _ _ _ c.loop-delay-test.true c.loop-delay.invariant
    (c.glider_at.ensures ∙ ap (own c.args.settings.now _) (delay_read _ here)) c.in_ok-extend_from_slice.ensures.items

pub returns : goal.returns
returns c =
    all_there _ c.args.settings.now c.args.delays.now _ c.loop-delay.delay-index _ c.loop-delay-test.false c.loop-delay.invariant
    ∙ ap (λ t. union (listed c.args.cells.now.items) (gliders c.args.settings.now c.args.delays.now t)) (time_read c.args.time c.requires.time)
