use Rattle.std.proofs.Common.{sym, subst, ◌∙◌, inl, inr}
use Rattle.std.proofs.lemmas.List.{get_or_default}
use Rattle.life_tiles.specs.declared.span.Span.{Span}
use Rattle.life_tiles.specs.Spans.{InSpan, no_rows}
use Rattle.life_tiles.proofs.Woken.{set_here, set_wakes}
use Rattle.life_tiles.proofs.waking.wake_if.Goals as goal

pub returns-then-index-waking-clause-wakes : goal.returns-then-index-waking-clause-wakes
returns-then-index-waking-clause-wakes c =
    let within = c.if-index-waking.true in
    set_wakes c.args.waking.now c.args.index c.joined.result c.if-index-waking.true
    (λ row h. c.joined.ensures row (inl (subst (λ (s : Span). InSpan s row) (get_or_default c.args.waking.now c.args.index no_rows c.index-waking-index.result c.if-index-waking.true ∙ sym c.index-waking-index.is) h)))

pub returns-then-index-waking-clause-awake : goal.returns-then-index-waking-clause-awake
returns-then-index-waking-clause-awake c = λ changes lt row h.
    subst (λ (s : Span). InSpan s row) (sym (set_here c.args.waking.now c.args.index c.joined.result c.if-index-waking.true)) (c.joined.ensures row (inr h))
