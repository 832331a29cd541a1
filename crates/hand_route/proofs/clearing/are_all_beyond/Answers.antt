use Rattle.lane_clear.specs.Clear.{AreBeyond}
use Rattle.recipe_hit.specs.declared.frame.HitFrame.{HitFrame}
use Rattle.recipe_hit.specs.declared.frame.Hit.{Hit}
use Rattle.lane_clear.specs.Frames.{moved_frame}
use Rattle.hand_route.proofs.Clear.{holds_more, holds_of_all, fails_here, moved_test}
use Rattle.hand_route.proofs.clearing.are_all_beyond.Goals as goal

pub returns-then-not-are_beyond : goal.returns-then-not-are_beyond
returns-then-not-are_beyond c =
    fails_here (λ (hit : Hit). AreBeyond c.args.settings.now (moved_frame c.args.place hit.frame).bounds) _ c.loop-hit.hit-index c.hit-item.result c.are_beyond.result c.loop-hit-test.true c.hit-item.is
    (moved_test (λ (f : HitFrame). AreBeyond c.args.settings.now f.bounds) c.are_beyond.result c.moved_frame.result (moved_frame c.args.place c.hit-item.result.frame) c.moved_frame.ensures.moved c.are_beyond.ensures) c.if-not-are_beyond.true

pub loop-hit-preserved : goal.loop-hit-preserved
loop-hit-preserved c =
    holds_more (λ (hit : Hit). AreBeyond c.args.settings.now (moved_frame c.args.place hit.frame).bounds) _ c.loop-hit.hit-index c.hit-item.result c.loop-hit-test.true c.hit-item.is c.loop-hit.invariant
    ((moved_test (λ (f : HitFrame). AreBeyond c.args.settings.now f.bounds) c.are_beyond.result c.moved_frame.result (moved_frame c.args.place c.hit-item.result.frame) c.moved_frame.ensures.moved c.are_beyond.ensures).0 c.if-not-are_beyond.false)

pub returns : goal.returns
returns c = holds_of_all (λ (hit : Hit). AreBeyond c.args.settings.now (moved_frame c.args.place hit.frame).bounds) _ c.loop-hit.hit-index c.loop-hit-test.false c.loop-hit.invariant
