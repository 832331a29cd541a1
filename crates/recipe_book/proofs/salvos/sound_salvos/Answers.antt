use Rattle.std.proofs.Common.{[], ◌∷◌, subst, ◌∙◌}
use Rattle.std.specs.Vec.Iter.{into_iter_items, into_iter_len}
use Rattle.life_cells.specs.Cells.{alive}
use Rattle.recipe_book.specs.Accepting.{IsJudgedSalvo}
use Rattle.recipe_book.specs.declared.verdict.Verdict.TheVariants.{Accepted, Salvo}
use Rattle.recipe_book.proofs.JudgedEntries.{begins, skips, takes, sound_at_end, verdicts_at_end, within, none_left, one_less}
use Rattle.recipe_book.proofs.Judged.{SalvosSoFar, sound_salvo, unsound_salvo}
use Rattle.recipe_book.proofs.salvos.sound_salvos.Goals as goal

pub loop-salvo-init : goal.loop-salvo-init
loop-salvo-init g c =
    rw (c.new-found.ensures.items, c.into_iter-salvo-iterator.ensures.into_iter_gives.0)
    (c.into_iter-salvo-iterator.ensures.into_iter_gives.1 ∙ c.args.salvos.ok.0, begins _ _ _ _ _ _ c.args.salvos.items c.args.verdicts.now.items c.args.steps.now c.requires)

pub judge_salvo-requires : goal.judge_salvo-requires
judge_salvo-requires g c =
    let here : SalvosSoFar c.args.hand.now c.args.salvos.items (c.in-Some.salvo ∷ into_iter_items c.next.new.self) c.loop-salvo.found.items c.args.verdicts.now.items c.loop-salvo.verdicts.items c.args.steps.now c.loop-salvo.steps = rw (← c.in-Some.ensures.steps.0) c.loop-salvo.invariant.1 in
    here.proper.0

pub returns-in_err-checked-clause-least : goal.returns-in_err-checked-clause-least
returns-in_err-checked-clause-least g c =
    let here : SalvosSoFar c.args.hand.now c.args.salvos.items (c.in-Some.salvo ∷ into_iter_items c.next.new.self) c.loop-salvo.found.items c.args.verdicts.now.items c.loop-salvo.verdicts.items c.args.steps.now c.loop-salvo.steps = rw (← c.in-Some.ensures.steps.0) c.loop-salvo.invariant.1 in
    (within c.judge_salvo.new.steps c.judge_salvo.ensures.least c.judge_salvo.ensures.most here).least

pub returns-in_err-checked-clause-most : goal.returns-in_err-checked-clause-most
returns-in_err-checked-clause-most g c =
    let here : SalvosSoFar c.args.hand.now c.args.salvos.items (c.in-Some.salvo ∷ into_iter_items c.next.new.self) c.loop-salvo.found.items c.args.verdicts.now.items c.loop-salvo.verdicts.items c.args.steps.now c.loop-salvo.steps = rw (← c.in-Some.ensures.steps.0) c.loop-salvo.invariant.1 in
    (within c.judge_salvo.new.steps c.judge_salvo.ensures.least c.judge_salvo.ensures.most here).most

pub returns-clause-sound : goal.returns-clause-sound
returns-clause-sound g c =
    let done : SalvosSoFar c.args.hand.now c.args.salvos.items [] c.loop-salvo.found.items c.args.verdicts.now.items c.loop-salvo.verdicts.items c.args.steps.now c.loop-salvo.steps = rw (← none_left (into_iter_items c.loop-salvo.salvo-iterator) (into_iter_len c.loop-salvo.salvo-iterator) c.loop-salvo.invariant.0 c.in-None.ensures.steps.0) c.loop-salvo.invariant.1 in
    sound_at_end done

pub returns-clause-verdicts : goal.returns-clause-verdicts
returns-clause-verdicts g c =
    let done : SalvosSoFar c.args.hand.now c.args.salvos.items [] c.loop-salvo.found.items c.args.verdicts.now.items c.loop-salvo.verdicts.items c.args.steps.now c.loop-salvo.steps = rw (← none_left (into_iter_items c.loop-salvo.salvo-iterator) (into_iter_len c.loop-salvo.salvo-iterator) c.loop-salvo.invariant.0 c.in-None.ensures.steps.0) c.loop-salvo.invariant.1 in
    verdicts_at_end done

pub loop-salvo-preserved-in-Continue-branch-4 : goal.loop-salvo-preserved-in-Continue-branch-4
loop-salvo-preserved-in-Continue-branch-4 g c =
    let here : SalvosSoFar c.args.hand.now c.args.salvos.items (c.in-Some.salvo ∷ into_iter_items c.next.new.self) c.loop-salvo.found.items c.args.verdicts.now.items c.loop-salvo.verdicts.items c.args.steps.now c.loop-salvo.steps = rw (← c.in-Some.ensures.steps.0) c.loop-salvo.invariant.1 in
    let judged = subst (IsJudgedSalvo c.args.hand.now c.in-Some.salvo) c.in-Ok.is c.in_ok-checked.ensures.judged in
    let sound = sound_salvo c.args.hand.now c.in-Some.salvo c.in-Ok.checked judged.0 judged.1 in (
      one_less _ _ _ _ _ c.in-Some.ensures.steps.0 c.loop-salvo.invariant.0 c.in-Some.ensures.steps.1,
      rw (c.in_ok-push-in-Ok.ensures.items, c.in_ok-push-in-Ok-2.ensures.items)
          (takes c.judge_salvo.new.steps Accepted c.in-Ok.checked judged.0 sound judged.1 sound c.judge_salvo.ensures.least c.judge_salvo.ensures.most here),
    )

pub loop-salvo-preserved : goal.loop-salvo-preserved
loop-salvo-preserved g c =
    let here : SalvosSoFar c.args.hand.now c.args.salvos.items (c.in-Some.salvo ∷ into_iter_items c.next.new.self) c.loop-salvo.found.items c.args.verdicts.now.items c.loop-salvo.verdicts.items c.args.steps.now c.loop-salvo.steps = rw (← c.in-Some.ensures.steps.0) c.loop-salvo.invariant.1 in
    let fails = subst (IsJudgedSalvo c.args.hand.now c.in-Some.salvo) c.in-Err.is c.in_ok-checked.ensures.judged in (
      one_less _ _ _ _ _ c.in-Some.ensures.steps.0 c.loop-salvo.invariant.0 c.in-Some.ensures.steps.1,
      rw c.in_ok-push-in-Err.ensures.items
          (skips c.judge_salvo.new.steps (Salvo c.in-Err.refusal) (unsound_salvo c.sound_salvos_have_no_refusal.ensures (alive c.args.hand.now) c.in-Some.salvo c.in-Err.refusal fails) fails c.judge_salvo.ensures.least c.judge_salvo.ensures.most here),
    )
