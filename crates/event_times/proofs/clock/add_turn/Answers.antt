use Rattle.std.proofs.Common.{◌≡◌, ◌+◌, ◌≤◌, ℕ, ℤ, Some, w64, to_z, of_z, List, take, length, refl, ap, subst, sym, ◌∙◌, arith, drop, Option}
use Rattle.std.proofs.lemmas.Int.{ints}
use Rattle.event_times.specs.Least.{AreNear, IsLeastOf}
use Rattle.event_times.specs.Clock.{AreOver, emission_of, sent_after}
use Rattle.event_times.specs.ClockLaws.{still_over}
use Rattle.event_times.specs.EarlyLaws.{early_near, ends_early}
use Rattle.event_times.specs.declared.least.Emission.{Emission}
use Rattle.event_times.specs.declared.least.HitTime.{HitTime}
use Rattle.event_times.specs.declared.least.TurnTime.{TurnTime}
use Rattle.event_times.proofs.clock.add_turn.Goals as goal

abbrev time : ℕ → ℤ → TurnTime
time end step = record { end = end; step = step }

pub start_after-start-requires-clause-near : goal.start_after-start-requires-clause-near
start_after-start-requires-clause-near c =
    let reach_is : to_z w64 (of_z w64 c.args.reach) ≡ c.args.reach = omega (arith, ints) in
    let shift_is : to_z w64 (of_z w64 c.args.shift) ≡ c.args.shift = omega (arith, ints) in
    let emits_is = c.emission_of-emits.ensures ∙ ap (emission_of c.args.turn.now.end) shift_is in
    let live = drop c.args.clock.now.over c.args.clock.now.hits.items in
    subst (λ (z : ℤ). AreNear z c.args.clock.now.before c.args.clock.now.sent c.emission_of-emits.result live) (sym reach_is)
    (subst (λ (o : Option Emission). AreNear c.args.reach c.args.clock.now.before c.args.clock.now.sent o live) (sym emits_is)
    (early_near (length c.args.clock.now.starts.items) c.requires.turn.0 c.args.clock.now c.args.reach c.args.turn.now.end c.args.shift c.requires.few c.requires.reach c.requires.turn.1.leaves c.requires.shift c.requires.early))

pub overflow_add-end : goal.overflow_add-end
overflow_add-end c =
    let reach_is : to_z w64 (of_z w64 c.args.reach) ≡ c.args.reach = omega (arith, ints) in
    let live = drop c.args.clock.now.over c.args.clock.now.hits.items in
    let least = subst (λ (z : ℤ). IsLeastOf z c.args.clock.now.before c.args.clock.now.sent c.args.turn.now.n c.emission_of-emits.result live c.start_after-start.result) reach_is c.start_after-start.ensures in
    let short = c.requires.turn.1.short in
    let few = c.requires.few in
    let same = c.from.ensures in
    let early = ends_early (length c.args.clock.now.starts.items) c.args.turn.now.n c.start_after-start.result c.args.clock.now c.args.reach c.emission_of-emits.result c.requires.reach c.requires.early (omega arith) least in
    omega arith

pub over_by-clock-requires-clause-over : goal.over_by-clock-requires-clause-over
over_by-clock-requires-clause-over c =
    subst (λ (hits : List HitTime). AreOver (c.start_after-start.result + c.from.result) (take c.args.clock.now.over hits)) (sym c.deref.ensures.value)
    (still_over c.args.clock.now.before (take c.args.clock.now.over c.args.clock.now.hits.items) c.start_after-start.result c.from.result c.requires.kept.past c.start_after-start.ensures.may.behind_turn)

pub returns-clause-added : goal.returns-clause-added
returns-clause-added c =
    let reach_is : to_z w64 (of_z w64 c.args.reach) ≡ c.args.reach = omega (arith, ints) in
    let shift_is : to_z w64 (of_z w64 c.args.shift) ≡ c.args.shift = omega (arith, ints) in
    let emits_is = c.emission_of-emits.ensures ∙ ap (emission_of c.args.turn.now.end) shift_is in
    let live = drop c.args.clock.now.over c.args.clock.now.hits.items in
    let read : to_z w64 (of_z w64 c.advance_of.result) ≡ c.advance_of.result = omega (arith, ints) in
    let step_is = read ∙ c.advance_of.ensures in
    record {
      start = c.start_after-start.result;
      least = subst (λ (o : Option Emission). IsLeastOf c.args.reach c.args.clock.now.before c.args.clock.now.sent c.args.turn.now.n o live c.start_after-start.result) emits_is
          (subst (λ (z : ℤ). IsLeastOf z c.args.clock.now.before c.args.clock.now.sent c.args.turn.now.n c.emission_of-emits.result live c.start_after-start.result) reach_is c.start_after-start.ensures);
      starts = c.in_ok-push.ensures.items;
      before = λ i. Some (time (c.start_after-start.result + c.from.ensures i) (step_is i));
      sent = c.sent_after-clock.ensures ∙ (λ i. sent_after (emits_is i) (c.start_after-start.result + c.from.ensures i) c.args.clock.now.sent);
      hits = refl;
      kept = record {
        within = subst (λ (hits : List HitTime). c.over_by-clock.result ≤ length hits) c.deref.ensures.value c.over_by-clock.ensures.within;
        past = subst (λ (hits : List HitTime). AreOver (c.start_after-start.result + c.from.result) (take c.over_by-clock.result hits)) c.deref.ensures.value c.over_by-clock.ensures.over;
      };
    }
