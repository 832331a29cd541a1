use Rattle.std.proofs.Common.{◌≡◌, ◌+◌, ◌++◌, drop, ℤ, ℕ, sym, ap, subst, ◌∙◌, inr, refl, w64, to_z, of_z, arith}
use Rattle.std.proofs.lemmas.Int.{ints}
use Rattle.std.proofs.lemmas.List.{take_rest}
use Rattle.elbow_graph.specs.declared.goal.Goal.TheVariants.{Closed}
use Rattle.recipe_turn.specs.Checked.{raws}
use Rattle.build_plan.specs.Stops.{HasNoClosing}
use Rattle.build_plan.specs.TurnEvents.{turn_events, gliders_of}
use Rattle.build_plan.specs.Walked.{AreWalked}
use Rattle.build_plan.proofs.Closings.{no_closing, long_closing, plan_there}
use Rattle.build_plan.proofs.OneByOne.{route_walked}
use Rattle.build_plan.proofs.closing.close.Goals as goal

pub returns-in_default-clause-stop : goal.returns-in_default-clause-stop
returns-in_default-clause-stop c = λ islands d.
    let none = rw c.in_default.is at c.in_ok-list.ensures.none in
    let at = c.go_on.new.self.elbow in
    let shift : to_z w64 (of_z w64 at.shift) ≡ at.shift = omega (arith, ints) in
    subst (λ (z : ℤ). HasNoClosing c.args.planner.now.book.now c.args.planner.now.placing islands at.kind z) (sym shift)
    (no_closing c.args.planner.now.book.now c.args.planner.now.placing islands c.args.draft d at c.in_ok-go_on.ensures.elbow none)

pub push_turns-requires : goal.push_turns-requires
push_turns-requires c =
    let book = c.args.planner.now.book.now in
    let least = rw c.in-Some.is at c.in_ok-list.ensures.some in
    subst (AreWalked (raws book.turns) book.settings.span c.go_on.new.self.elbow) (sym c.deref.ensures.value)
    (route_walked (raws book.turns) book.settings.span Closed c.go_on.new.self.elbow c.in-Some.list.items least.ends)

pub returns-then-count-gt-MOST_GLIDERS-clause-stop : goal.returns-then-count-gt-MOST_GLIDERS-clause-stop
returns-then-count-gt-MOST_GLIDERS-clause-stop c = λ islands d.
    let book = c.args.planner.now.book.now in
    let draft = c.args.draft in
    let at = c.go_on.new.self.elbow in
    let least = rw c.in-Some.is at c.in_ok-list.ensures.some in
    let are = c.in_ok-push_turns.ensures.events ∙ (λ i. c.in_ok-go_on.ensures.events i ++ turn_events (raws book.turns) at (c.deref.ensures.value i)) in
    let more = c.in_ok-more.ensures ∙ ap (gliders_of (raws c.turns.result.now)) (take_rest c.deref-2.result.now c.len-before.result) ∙ (λ i. gliders_of (raws (c.turns.ensures i)) (drop (c.len-before.ensures i) (c.deref-2.ensures.value i))) in
    inr (long_closing book c.args.planner.now.placing islands draft d at c.in_ok-go_on.ensures.elbow c.in-Some.list.items least c.push_turns.new.self.events.items are c.in_ok-count.count
    (c.in_ok-count.ensures ∙ ap (λ (n : ℕ). draft.gliders + n) more) c.if-count-gt-MOST_GLIDERS.true)

pub returns-clause-plan : goal.returns-clause-plan
returns-clause-plan c = λ islands d.
    let book = c.args.planner.now.book.now in
    let draft = c.args.draft in
    let at = c.go_on.new.self.elbow in
    let least = rw c.in-Some.is at c.in_ok-list.ensures.some in
    let are = c.in_ok-push_turns.ensures.events ∙ (λ i. c.in_ok-go_on.ensures.events i ++ turn_events (raws book.turns) at (c.deref.ensures.value i)) in
    let more = c.in_ok-more.ensures ∙ ap (gliders_of (raws c.turns.result.now)) (take_rest c.deref-2.result.now c.len-before.result) ∙ (λ i. gliders_of (raws (c.turns.ensures i)) (drop (c.len-before.ensures i) (c.deref-2.ensures.value i))) in
    plan_there book c.args.planner.now.placing islands draft d at c.in_ok-go_on.ensures.elbow c.in-Some.list.items least c.push_turns.new.self.events.items are c.in_ok-count.count
    (c.in_ok-count.ensures ∙ ap (λ (n : ℕ). draft.gliders + n) more) _ refl refl c.back_of.ensures c.if-count-gt-MOST_GLIDERS.false
