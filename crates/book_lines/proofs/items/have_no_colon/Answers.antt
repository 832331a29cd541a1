use Rattle.std.proofs.Common.{sym, ◌∙◌}
use Rattle.book_lines.proofs.items.have_no_colon.Goals as goal
use Rattle.book_lines.proofs.Pieces.{colon_free, free_at}

pub loop-item-preserved : goal.loop-item-preserved
loop-item-preserved c = colon_free c.args.items.now c.loop-item.item-index c.loop-item-test.true c.loop-item.invariant (c.may_stand.ensures.0 c.if-not-may_stand.false)

pub returns-then-not-may_stand : goal.returns-then-not-may_stand
returns-then-not-may_stand c = (
  (λ h. absurd (cc h)),
  (λ h. sym c.if-not-may_stand.true ∙ c.may_stand.ensures.1 (free_at c.args.items.now c.loop-item.item-index c.loop-item-test.true h)),
)
