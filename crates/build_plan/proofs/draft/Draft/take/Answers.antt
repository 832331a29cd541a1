use Rattle.std.proofs.Common.{◌+◌, ℕ, ap, ◌∙◌, drop}
use Rattle.std.proofs.lemmas.List.{take_rest}
use Rattle.recipe_turn.specs.Checked.{raws}
use Rattle.build_plan.specs.TurnEvents.{gliders_of}
use Rattle.build_plan.proofs.Drafting.{takes_one, first_is_or}
use Rattle.build_plan.proofs.FirstIsland.{cells_built}
use Rattle.build_plan.proofs.draft.Draft.take.Goals as goal

pub with-requires : goal.with-requires
with-requires c = cells_built c.args.left.now c.requires.left c.index-left-0.result

pub returns-clause-some : goal.returns-clause-some
returns-clause-some c =
    let old = c.args.self in
    let f = rw c.in-Some.is at c.in_ok-trial.ensures.some in
    let more = c.in_ok-more.ensures ∙ ap (gliders_of (raws c.turns.result.now)) (take_rest c.deref.result.now c.len-before.result) ∙ (λ i. gliders_of (raws (c.turns.ensures i)) (drop (c.len-before.ensures i) (c.deref.ensures.value i))) in
    takes_one c.args.planner.now.book.now c.args.planner.now.placing.room c.settings.ensures.checked old c.args.left.now c.requires.left c.find.new.walk c.in-Some.trial f c.in_ok-built.built c.in_ok-gliders.gliders c.or.result
    c.index-left-0.result c.in_ok-built.ensures (c.in_ok-gliders.ensures ∙ ap (λ (n : ℕ). old.gliders + n) more) (c.or.ensures ∙ first_is_or old.first_hand c.in-Some.trial.at)
