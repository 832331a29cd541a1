use Rattle.std.proofs.Common.{◌≡◌, ap, sym, subst, ◌∙◌, pos, ◌^◌, get_or, Option, add-one}
use Rattle.book_parts.specs.declared.turn.RawTurn.{RawTurn}
use Rattle.elbow_graph.specs.NumberedLaws.{numbered_once}
use Rattle.recipe_turn.specs.Checked.{raws}
use Rattle.build_plan.specs.Numbers.{item_of}
use Rattle.build_plan.specs.NumberLaws.{item_numbered}
use Rattle.build_plan.specs.TurnEvents.{elbow_past}
use Rattle.build_plan.specs.Walked.{IsNearEnd}
use Rattle.build_plan.proofs.Pushing.{next_walked, pushed_more}
use Rattle.build_plan.proofs.OneByOne.{near_wider}
use Rattle.build_plan.proofs.walk.Walk.push_turns.Goals as goal

pub turn_at-turn-requires-clause-numbered : goal.turn_at-turn-requires-clause-numbered
turn_at-turn-requires-clause-numbered c =
    let next = next_walked _ _ _ _ _ c.loop-number.number-index c.loop-number.self.elbow c.loop-number.self.events.items c.loop-number-test.true c.loop-number.invariant in
    (next.0.turn, next.0.numbered)

pub moved_by-self-requires : goal.moved_by-self-requires
moved_by-self-requires c =
    let turns = raws c.turns-turns.result.now in
    let next = next_walked _ _ _ _ _ c.loop-number.number-index c.loop-number.self.elbow c.loop-number.self.events.items c.loop-number-test.true c.loop-number.invariant in
    let same = numbered_once turns (get_or c.args.list.now c.loop-number.number-index 0) next.0.turn c.turn_at-turn.result.now next.0.numbered c.turn_at-turn.ensures.turn in
    near_wider c.args.book.now.settings.span (pos (2 ^ 27)) c.turn_at-turn.result.now.end c.loop-number.self.elbow c.settings.ensures.checked.proper.settings.span.high
    (subst (λ (t : RawTurn). IsNearEnd c.args.book.now.settings.span t.end c.loop-number.self.elbow) same next.0.near)

pub loop-number-preserved : goal.loop-number-preserved
loop-number-preserved c =
    let turns = raws c.turns-turns.result.now in
    let past : c.moved_by-self.result ≡ elbow_past (item_of turns (get_or c.args.list.now c.loop-number.number-index 0)) c.loop-number.self.elbow =
    c.moved_by-self.ensures ∙ ap (λ (o : Option RawTurn). elbow_past o c.loop-number.self.elbow)
    (sym (item_numbered turns (get_or c.args.list.now c.loop-number.number-index 0) c.turn_at-turn.result.now c.turn_at-turn.ensures.turn)) in
    rw (c.in_ok-push.ensures.items, c.turn_event.ensures, add-one)
    (pushed_more turns c.args.book.now.settings.span c.args.list.now c.args.self.now.elbow c.args.self.now.events.items c.loop-number.number-index c.loop-number.self.elbow c.moved_by-self.result c.loop-number.self.events.items
    c.loop-number-test.true c.loop-number.invariant past)
