use Rattle.std.proofs.Common.{ℕ, ◌≤◌, ℤ, pos, ◌+ℤ◌, ◌-ℤ◌, ◌*ℤ◌, ◌≤ℤ◌, sym, subst, ◌∙◌}
use Rattle.std.specs.List.{AllByRecursion}
use Rattle.life_cells.specs.Cells.{alive}
use Rattle.event_times.specs.Early.{IsNearShift, latest_end}
use Rattle.stream_time.specs.InTime.{starts_of}
use Rattle.stream_time.specs.LastDelay.{EndInTurn}
use Rattle.stream_time.proofs.LastTurn.{ReadsLast, reads_last, last_turn, plan_ends, all_last, not_none}
use Rattle.stream_time.proofs.delay.last_delay.Goals as goal

pub last_shift-shift-requires : goal.last_shift-shift-requires
last_shift-shift-requires c = subst EndInTurn (sym c.deref.ensures.value) (plan_ends c.args.book.now (alive c.args.target.now) c.args.plan.now c.requires.plan)

pub last_start-start-requires : goal.last_start-start-requires
last_start-start-requires c none =
    let t = last_turn c.args.book.now (alive c.args.target.now) c.args.plan.now c.args.schedule.now c.settings-settings.ensures.checked c.requires.plan c.plans_construct.ensures c.requires.schedule in
    not_none (starts_of t.before) t.last.start (sym t.starts_are ∙ sym c.deref-2.ensures.value ∙ none)

-- what was read is the last turn's
known : (c : goal.After-last_start-start) → ReadsLast c.args.book.now c.args.plan.now c.args.schedule.now c.requires.schedule c.last_shift-shift.result c.last_start-start.result
known c =
    reads_last c.args.book.now (alive c.args.target.now) c.args.plan.now c.args.schedule.now c.settings-settings.ensures.checked c.cells.ensures.target c.requires.plan c.plans_construct.ensures c.requires.schedule c.last_shift-shift.result c.last_start-start.result
    (λ front number shift e. c.last_shift-shift.ensures front number shift (c.deref.ensures.value ∙ e)) (λ front last e. c.last_start-start.ensures front last (c.deref-2.ensures.value ∙ e))

pub delay_at-requires-clause-early : goal.delay_at-requires-clause-early
delay_at-requires-clause-early c =
    let k = known c in
    let t = k.turn in
    subst (λ (n : ℕ). n ≤ latest_end) (sym k.start_is) (all_last (λ (n : ℕ). n ≤ latest_end) (starts_of t.before) t.last.start (subst (AllByRecursion (λ (n : ℕ). n ≤ latest_end)) t.starts_are c.requires.early))

pub delay_at-requires-clause-near : goal.delay_at-requires-clause-near
delay_at-requires-clause-near c = let k = known c in subst IsNearShift (sym (k.shift_is ∙ k.turn.shift_is)) k.near

pub delay_at-requires-clause-passed : goal.delay_at-requires-clause-passed
delay_at-requires-clause-passed c =
    let k = known c in
    subst (λ (z : ℤ). (pos 4 *ℤ z) ≤ℤ pos c.last_start-start.result) (sym k.shift_is) (subst (λ (n : ℕ). (pos 4 *ℤ k.turn.last.shift) ≤ℤ pos n) (sym k.start_is) k.turn.passed)

pub returns : goal.returns
returns c s =
    let k = reads_last c.args.book.now (alive c.args.target.now) c.args.plan.now c.args.schedule.now c.settings-settings.ensures.checked c.cells.ensures.target c.requires.plan c.plans_construct.ensures s c.last_shift-shift.result c.last_start-start.result
    (λ front number shift e. c.last_shift-shift.ensures front number shift (c.deref.ensures.value ∙ e)) (λ front last e. c.last_start-start.ensures front last (c.deref-2.ensures.value ∙ e)) in
    record {
      before = k.turn.before;
      last = k.turn.last;
      last_is = k.turn.happenings_are;
      late = c.delay_at.ensures ∙ (λ i. (pos (k.start_is i) +ℤ (c.settings-settings.ensures.settings i).approach) -ℤ pos 4 *ℤ k.shift_is i);
    }
