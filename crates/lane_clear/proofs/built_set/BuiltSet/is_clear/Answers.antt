use Rattle.life_cells.specs.Cells.{alive}
use Rattle.lane_clear.specs.Frames.{moved_frame}
use Rattle.lane_clear.specs.BaseLaws.{not_both}
use Rattle.lane_clear.proofs.Kept.{clear_from_parts, not_clear}
use Rattle.lane_clear.proofs.built_set.BuiltSet.is_clear.Goals as goal

pub returns-then-not-are_beyond : goal.returns-then-not-are_beyond
returns-then-not-are_beyond c =
    not_clear c.args.settings.now (alive c.args.self.now) c.moved_frame-there.result (moved_frame c.args.at c.args.frame) c.moved_frame-there.ensures.moved
    (λ clear. not_both c.if-not-are_beyond.true (c.are_beyond.ensures.1 clear.works))

pub returns-else-is_aside : goal.returns-else-is_aside
returns-else-is_aside c =
    let never = not_clear c.args.settings.now (alive c.args.self.now) c.moved_frame-there.result (moved_frame c.args.at c.args.frame) c.moved_frame-there.ensures.moved
    (λ clear. not_both c.if-is_aside.false (c.is_aside.ensures.1 clear.lane_free)) in
    (λ h. absurd (not_both c.if-is_aside.false h), λ clear. absurd (cc (never.1 clear)))

pub returns-then-is_aside : goal.returns-then-is_aside
returns-then-is_aside c =
    clear_from_parts c.args.settings.now (alive c.args.self.now) c.moved_frame-there.result (moved_frame c.args.at c.args.frame) c.is_off.result c.moved_frame-there.ensures.moved
    (c.are_beyond.ensures.0 c.if-not-are_beyond.false) (c.is_aside.ensures.0 c.if-is_aside.true) c.is_off.ensures
