use Rattle.std.proofs.Common.{◌<◌, ◌≤◌, pos, List, length, get_or, refl, sym, subst}
use Rattle.plan_facts.specs.State.{first_state}
use Rattle.build_plan.specs.declared.event.Event.{Event}
use Rattle.build_plan.specs.declared.event.Event.TheVariants.{Turn}
use Rattle.build_plan.specs.Happenings.{IsOfBook}
use Rattle.stream_time.specs.Adding.{GliderComes, EventIsAdded}
use Rattle.stream_time.specs.NearEvents.{IsNearEvent}
use Rattle.stream_time.specs.NearPlanLaws.{plan_near}
use Rattle.stream_time.proofs.EventsAdded.{so_far_begins, so_far_ends, so_far_few, own_event, near_event, few_turns, event_comes, event_added}
use Rattle.stream_time.proofs.scheduling.schedule.Goals as goal

pub loop-event-init : goal.loop-event-init
loop-event-init c =
    let plan = c.args.plan.now in
    so_far_begins c.args.book.now c.settings.ensures.checked plan.events.items (first_state c.args.book.now.start plan.first_hand) c.new-clock.result c.new-clock.ensures.shows c.new-clock.ensures.none c.new-clock.ensures.early refl
    (λ hs stand. (c.plans_construct.ensures c.args.book.now c.settings.ensures.checked _ plan c.requires hs stand).all_may)
    (c.plans_are_of_their_book.ensures c.args.book.now _ plan c.requires)
    (plan_near c.args.book.now c.settings.ensures.checked _ c.cells.ensures.target plan c.requires).events c.requires.plans.few

pub add_event-requires-clause-own : goal.add_event-requires-clause-own
add_event-requires-clause-own c =
    let same = c.deref-event-items.ensures.value in
    subst (λ (es : List Event). IsOfBook c.args.book.now (get_or es c.loop-event.event-index _)) (sym same)
    (own_event c.args.book.now c.settings.ensures.checked c.args.plan.now.events.items c.loop-event.event-index c.loop-event.clock c.loop-event.invariant _ (subst (λ (es : List Event). c.loop-event.event-index < length es) same c.loop-event-test.true))

pub add_event-requires-clause-near : goal.add_event-requires-clause-near
add_event-requires-clause-near c =
    let same = c.deref-event-items.ensures.value in
    subst (λ (es : List Event). IsNearEvent (get_or es c.loop-event.event-index _)) (sym same)
    (near_event c.args.book.now c.settings.ensures.checked c.args.plan.now.events.items c.loop-event.event-index c.loop-event.clock c.loop-event.invariant _ (subst (λ (es : List Event). c.loop-event.event-index < length es) same c.loop-event-test.true))

pub add_event-requires-clause-kept : goal.add_event-requires-clause-kept
add_event-requires-clause-kept c = c.loop-event.invariant.shows.kept

pub add_event-requires-clause-early : goal.add_event-requires-clause-early
add_event-requires-clause-early c = c.loop-event.invariant.early

pub add_event-requires-clause-few : goal.add_event-requires-clause-few
add_event-requires-clause-few c =
    few_turns c.args.book.now c.settings.ensures.checked c.args.plan.now.events.items c.loop-event.event-index c.loop-event.clock c.loop-event.invariant (Turn 0 (pos 0))
    (subst (λ (es : List Event). c.loop-event.event-index < length es) c.deref-event-items.ensures.value c.loop-event-test.true)

pub add_event-requires-clause-comes : goal.add_event-requires-clause-comes
add_event-requires-clause-comes c =
    let same = c.deref-event-items.ensures.value in
    subst (λ (es : List Event). GliderComes c.args.book.now (get_or es c.loop-event.event-index (Turn 0 (pos 0))) c.loop-event.clock.sent) (sym same)
    (event_comes c.args.book.now c.settings.ensures.checked c.args.plan.now.events.items c.loop-event.event-index c.loop-event.clock c.loop-event.invariant (Turn 0 (pos 0))
    (subst (λ (es : List Event). c.loop-event.event-index < length es) same c.loop-event-test.true))

pub loop-event-preserved : goal.loop-event-preserved
loop-event-preserved c =
    let same = c.deref-event-items.ensures.value in
    event_added c.args.book.now c.settings.ensures.checked c.args.plan.now.events.items c.loop-event.event-index c.loop-event.clock c.loop-event.invariant (Turn 0 (pos 0))
    (subst (λ (es : List Event). c.loop-event.event-index < length es) same c.loop-event-test.true) c.add_event.new.clock
    (subst (λ (es : List Event). EventIsAdded c.args.book.now (get_or es c.loop-event.event-index (Turn 0 (pos 0))) c.loop-event.clock c.add_event.new.clock) same c.in_ok-add_event.ensures)

pub returns : goal.returns
returns c = record {
  schedule = so_far_ends c.args.book.now c.args.plan.now c.loop-event.event-index c.loop-event.clock _ (subst (λ (es : List Event). length es ≤ c.loop-event.event-index) c.deref-event-items.ensures.value c.loop-event-test.false) c.loop-event.invariant
      refl c.in_ok-hit_ends.ensures c.number-n.ensures;
  early = c.loop-event.invariant.on_time;
  few = so_far_few c.args.book.now c.args.plan.now.events.items c.loop-event.event-index c.loop-event.clock c.loop-event.invariant;
}
