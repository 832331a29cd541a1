use Rattle.std.proofs.Common.{◌≡◌, ◌-◌, ℤ, w64, to_z, of_z, List, length, take, drop, ap, sym, subst, ◌∙◌, arith}
use Rattle.std.proofs.lemmas.Int.{ints}
use Rattle.event_times.specs.Least.{AreNear, IsLeastOf}
use Rattle.event_times.specs.declared.least.HitTime.{HitTime}
use Rattle.event_times.proofs.LeastStarts.{live_is}
use Rattle.event_times.proofs.clock.start_after.Goals as goal

pub least_start-requires : goal.least_start-requires
least_start-requires c =
    let low = c.requires.near.near_reach.low in
    let high = c.requires.near.near_reach.high in
    let reach_is : to_z w64 (of_z w64 c.args.reach) ≡ c.args.reach = omega (arith, ints) in
    let live = live_is c.deref.result.now c.args.clock.now.over ∙ ap (drop c.args.clock.now.over) c.deref.ensures.value in
    subst (λ (z : ℤ). AreNear z c.args.clock.now.before c.args.clock.now.sent c.args.emits (take (length c.deref.result.now - c.args.clock.now.over) (drop c.args.clock.now.over c.deref.result.now))) (sym reach_is)
    (subst (λ (hits : List HitTime). AreNear c.args.reach c.args.clock.now.before c.args.clock.now.sent c.args.emits hits) (sym live) c.requires.near)

pub returns : goal.returns
returns c =
    let low = c.requires.near.near_reach.low in
    let high = c.requires.near.near_reach.high in
    let reach_is : to_z w64 (of_z w64 c.args.reach) ≡ c.args.reach = omega (arith, ints) in
    let live = live_is c.deref.result.now c.args.clock.now.over ∙ ap (drop c.args.clock.now.over) c.deref.ensures.value in
    subst (λ (hits : List HitTime). IsLeastOf c.args.reach c.args.clock.now.before c.args.clock.now.sent c.args.n c.args.emits hits c.least_start.result) live
    (subst (λ (z : ℤ). IsLeastOf z c.args.clock.now.before c.args.clock.now.sent c.args.n c.args.emits (take (length c.deref.result.now - c.args.clock.now.over) (drop c.args.clock.now.over c.deref.result.now)) c.least_start.result) reach_is
    c.least_start.ensures)
