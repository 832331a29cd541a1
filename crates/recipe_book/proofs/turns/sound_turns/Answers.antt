use Rattle.std.proofs.Common.{[], ◌∷◌, subst, ◌∙◌}
use Rattle.std.specs.Vec.Iter.{into_iter_items, into_iter_len}
use Rattle.recipe_book.specs.Accepting.{IsJudgedTurn}
use Rattle.recipe_book.specs.declared.verdict.Verdict.TheVariants.{Accepted, Turn}
use Rattle.recipe_book.proofs.JudgedEntries.{begins, skips, takes, sound_at_end, verdicts_at_end, within, none_left, one_less}
use Rattle.recipe_book.proofs.Judged.{TurnsSoFar, sound_turn, unsound_turn}
use Rattle.recipe_book.proofs.turns.sound_turns.Goals as goal

pub loop-turn-init : goal.loop-turn-init
loop-turn-init g c =
    rw (c.new-found.ensures.items, c.into_iter-turn-iterator.ensures.into_iter_gives.0)
    (c.into_iter-turn-iterator.ensures.into_iter_gives.1 ∙ c.args.turns.ok.0, begins _ _ _ _ _ _ c.args.turns.items c.args.verdicts.now.items c.args.steps.now c.requires.turns)

pub judge_turn-requires-clause-turn : goal.judge_turn-requires-clause-turn
judge_turn-requires-clause-turn g c =
    let here : TurnsSoFar c.args.settings.now c.args.kinds.now.raw c.args.turns.items (c.in-Some.turn ∷ into_iter_items c.next.new.self) c.loop-turn.found.items c.args.verdicts.now.items c.loop-turn.verdicts.items c.args.steps.now c.loop-turn.steps = rw (← c.in-Some.ensures.steps.0) c.loop-turn.invariant.1 in
    here.proper.0

pub returns-in_err-checked-clause-least : goal.returns-in_err-checked-clause-least
returns-in_err-checked-clause-least g c =
    let here : TurnsSoFar c.args.settings.now c.args.kinds.now.raw c.args.turns.items (c.in-Some.turn ∷ into_iter_items c.next.new.self) c.loop-turn.found.items c.args.verdicts.now.items c.loop-turn.verdicts.items c.args.steps.now c.loop-turn.steps = rw (← c.in-Some.ensures.steps.0) c.loop-turn.invariant.1 in
    (within c.judge_turn.new.steps c.judge_turn.ensures.least c.judge_turn.ensures.most here).least

pub returns-in_err-checked-clause-most : goal.returns-in_err-checked-clause-most
returns-in_err-checked-clause-most g c =
    let here : TurnsSoFar c.args.settings.now c.args.kinds.now.raw c.args.turns.items (c.in-Some.turn ∷ into_iter_items c.next.new.self) c.loop-turn.found.items c.args.verdicts.now.items c.loop-turn.verdicts.items c.args.steps.now c.loop-turn.steps = rw (← c.in-Some.ensures.steps.0) c.loop-turn.invariant.1 in
    (within c.judge_turn.new.steps c.judge_turn.ensures.least c.judge_turn.ensures.most here).most

pub returns-clause-sound : goal.returns-clause-sound
returns-clause-sound g c =
    let done : TurnsSoFar c.args.settings.now c.args.kinds.now.raw c.args.turns.items [] c.loop-turn.found.items c.args.verdicts.now.items c.loop-turn.verdicts.items c.args.steps.now c.loop-turn.steps = rw (← none_left (into_iter_items c.loop-turn.turn-iterator) (into_iter_len c.loop-turn.turn-iterator) c.loop-turn.invariant.0 c.in-None.ensures.steps.0) c.loop-turn.invariant.1 in
    sound_at_end done

pub returns-clause-verdicts : goal.returns-clause-verdicts
returns-clause-verdicts g c =
    let done : TurnsSoFar c.args.settings.now c.args.kinds.now.raw c.args.turns.items [] c.loop-turn.found.items c.args.verdicts.now.items c.loop-turn.verdicts.items c.args.steps.now c.loop-turn.steps = rw (← none_left (into_iter_items c.loop-turn.turn-iterator) (into_iter_len c.loop-turn.turn-iterator) c.loop-turn.invariant.0 c.in-None.ensures.steps.0) c.loop-turn.invariant.1 in
    verdicts_at_end done

pub loop-turn-preserved-in-Continue-branch-4 : goal.loop-turn-preserved-in-Continue-branch-4
loop-turn-preserved-in-Continue-branch-4 g c =
    let here : TurnsSoFar c.args.settings.now c.args.kinds.now.raw c.args.turns.items (c.in-Some.turn ∷ into_iter_items c.next.new.self) c.loop-turn.found.items c.args.verdicts.now.items c.loop-turn.verdicts.items c.args.steps.now c.loop-turn.steps = rw (← c.in-Some.ensures.steps.0) c.loop-turn.invariant.1 in
    let judged = subst (IsJudgedTurn c.args.settings.now c.args.kinds.now.raw c.in-Some.turn) c.in-Ok.is c.in_ok-checked.ensures.judged in
    let sound = sound_turn c.args.settings.now c.args.kinds.now.raw c.in-Some.turn c.in-Ok.checked judged.0 judged.1 in (
      one_less _ _ _ _ _ c.in-Some.ensures.steps.0 c.loop-turn.invariant.0 c.in-Some.ensures.steps.1,
      rw (c.in_ok-push-in-Ok.ensures.items, c.in_ok-push-in-Ok-2.ensures.items)
          (takes c.judge_turn.new.steps Accepted c.in-Ok.checked judged.0 sound judged.1 sound c.judge_turn.ensures.least c.judge_turn.ensures.most here),
    )

pub loop-turn-preserved : goal.loop-turn-preserved
loop-turn-preserved g c =
    let here : TurnsSoFar c.args.settings.now c.args.kinds.now.raw c.args.turns.items (c.in-Some.turn ∷ into_iter_items c.next.new.self) c.loop-turn.found.items c.args.verdicts.now.items c.loop-turn.verdicts.items c.args.steps.now c.loop-turn.steps = rw (← c.in-Some.ensures.steps.0) c.loop-turn.invariant.1 in
    let fails = subst (IsJudgedTurn c.args.settings.now c.args.kinds.now.raw c.in-Some.turn) c.in-Err.is c.in_ok-checked.ensures.judged in (
      one_less _ _ _ _ _ c.in-Some.ensures.steps.0 c.loop-turn.invariant.0 c.in-Some.ensures.steps.1,
      rw c.in_ok-push-in-Err.ensures.items
          (skips c.judge_turn.new.steps (Turn c.in-Err.refusal) (unsound_turn c.sound_turns_have_no_refusal.ensures c.args.settings.now c.args.kinds.now.raw c.in-Some.turn c.in-Err.refusal fails) fails c.judge_turn.ensures.least c.judge_turn.ensures.most here),
    )
