use Rattle.std.proofs.Common.{ap, sym, subst, ◌∙◌, add-one}
use Rattle.elbow_graph.specs.declared.goal.Goal.TheVariants.{Lane}
use Rattle.recipe_turn.specs.Checked.{raws}
use Rattle.build_plan.specs.TurnEvents.{elbow_after}
use Rattle.build_plan.specs.Walked.{AreWalked}
use Rattle.build_plan.proofs.OneByOne.{served_more, served_all, served_not, route_walked}
use Rattle.build_plan.proofs.serving.serve.Goals as goal

pub push_turns-requires : goal.push_turns-requires
push_turns-requires c =
    let least = rw c.in-Some.is at c.in_ok-list.ensures.some in
    subst (AreWalked (raws c.args.book.now.turns) c.args.book.now.settings.span c.loop-throw.walk.elbow) (sym c.deref.ensures.value) (route_walked _ _ _ c.loop-throw.walk.elbow c.in-Some.list.items least.ends)

pub returns-in_default : goal.returns-in_default
returns-in_default c =
    let s = c.loop-throw.invariant in
    let none = rw c.in_default.is at c.in_ok-list.ensures.none in
    (s.done, (s.events_are, served_not _ _ _ _ _ c.loop-throw.throw-index _ c.loop-throw.walk.elbow c.loop-throw.walk.events.items c.loop-throw-test.true s (λ list least. none list least.ends)))

pub loop-throw-preserved : goal.loop-throw-preserved
loop-throw-preserved c =
    let least = rw c.in-Some.is at c.in_ok-list.ensures.some in
    rw (c.in_ok-push.ensures.items, c.hit_event.ensures, c.in_ok-push_turns.ensures.events, c.deref.ensures.value, add-one)
    (served_more (raws c.args.book.now.turns) c.args.book.now.settings.span c.args.throws.now c.args.walk.now.elbow c.args.walk.now.events.items
    (λ lane from a b. c.least_lists_are_one.ensures (raws c.args.book.now.turns) c.args.book.now.settings.span (Lane lane) from a b) c.loop-throw.throw-index _ c.loop-throw.walk.elbow c.push_turns.new.self.elbow
    c.loop-throw.walk.events.items c.in-Some.list.items c.loop-throw-test.true c.loop-throw.invariant least (c.in_ok-push_turns.ensures.elbow ∙ ap (elbow_after (raws c.args.book.now.turns) c.loop-throw.walk.elbow) c.deref.ensures.value))

pub returns : goal.returns
returns c = served_all _ _ _ _ _ c.loop-throw.throw-index c.loop-throw.walk.elbow c.loop-throw.walk.events.items c.loop-throw-test.false c.loop-throw.invariant
