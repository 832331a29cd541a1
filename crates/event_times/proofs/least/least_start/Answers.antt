use Rattle.std.proofs.Common.{◌≡◌, ◌↔◌, ℕ, ◌+◌, ◌-◌, ◌≤◌, Some, ℤ, w64, to_z, of_z, sym, subst, arith}
use Rattle.std.proofs.lemmas.Int.{ints}
use Rattle.event_times.specs.Least.{IsBehindSent, SparesThese, IsLeastOf}
use Rattle.event_times.proofs.LeastStarts.{least_throwing}
use Rattle.event_times.proofs.least.least_start.Goals as goal

pub returns-in-Some : goal.returns-in-Some
returns-in-Some c =
    let near = c.requires.near_reach in
    let low = near.low in
    let high = near.high in
    let reach_is : to_z w64 (of_z w64 c.args.reach) ≡ c.args.reach = omega (arith, ints) in
    let passed = subst (λ (z : ℤ). (start : ℕ) → IsBehindSent z c.args.sent start ↔ c.behind_glider.result ≤ start) reach_is c.behind_glider.ensures.from in
    rw c.in-Some.is (subst (λ k. IsLeastOf c.args.reach c.args.before c.args.sent c.args.n (Some c.in-Some.glider) c.args.hits.now (c.sparing_all.result - k)) (sym c.from-in-Some.ensures)
    (least_throwing c.args.reach c.args.before c.args.sent c.args.n c.args.hits.now c.max-start.result c.behind_turn.result c.behind_glider.result c.max-start.ensures c.behind_turn.ensures.from passed c.in-Some.glider
    c.sparing_all.result
    (subst (λ k. (thrown : ℕ) → ((c.max-start.result + k ≤ thrown) × SparesThese thrown (Some c.in-Some.glider) c.args.hits.now) ↔ c.sparing_all.result ≤ thrown) c.from.ensures c.sparing_all.ensures.from)))
