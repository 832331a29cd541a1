use Rattle.life_plane.specs.Strips.{Each}
use Rattle.life_cells.specs.Cells.{alive}
use Rattle.lane_clear.specs.Clear.{IsOffBounds}
use Rattle.recipe_hit.specs.declared.frame.HitFrame.{HitFrame}
use Rattle.recipe_hit.specs.declared.frame.Hit.{Hit}
use Rattle.lane_clear.specs.Frames.{moved_frame}
use Rattle.hand_route.proofs.Clear.{holds_more, holds_of_all, fails_here, moved_test}
use Rattle.hand_route.proofs.clearing.are_all_off.Goals as goal

pub returns-then-not-is_off : goal.returns-then-not-is_off
returns-then-not-is_off c =
    fails_here (λ (hit : Hit). Each (IsOffBounds (moved_frame c.args.place hit.frame).bounds) (alive c.args.built.now)) _ c.loop-hit.hit-index c.hit-item.result c.is_off.result c.loop-hit-test.true c.hit-item.is
    (moved_test (λ (f : HitFrame). Each (IsOffBounds f.bounds) (alive c.args.built.now)) c.is_off.result c.moved_frame.result (moved_frame c.args.place c.hit-item.result.frame) c.moved_frame.ensures.moved c.is_off.ensures) c.if-not-is_off.true

pub loop-hit-preserved : goal.loop-hit-preserved
loop-hit-preserved c =
    holds_more (λ (hit : Hit). Each (IsOffBounds (moved_frame c.args.place hit.frame).bounds) (alive c.args.built.now)) _ c.loop-hit.hit-index c.hit-item.result c.loop-hit-test.true c.hit-item.is c.loop-hit.invariant
    ((moved_test (λ (f : HitFrame). Each (IsOffBounds f.bounds) (alive c.args.built.now)) c.is_off.result c.moved_frame.result (moved_frame c.args.place c.hit-item.result.frame) c.moved_frame.ensures.moved c.is_off.ensures).0 c.if-not-is_off.false)

pub returns : goal.returns
returns c = holds_of_all (λ (hit : Hit). Each (IsOffBounds (moved_frame c.args.place hit.frame).bounds) (alive c.args.built.now)) _ c.loop-hit.hit-index c.loop-hit-test.false c.loop-hit.invariant
