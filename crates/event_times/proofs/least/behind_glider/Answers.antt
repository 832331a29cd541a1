use Rattle.std.proofs.Common.{subst, arith}
use Rattle.std.proofs.lemmas.Int.{ints}
use Rattle.event_times.specs.Least.{IsNearSent}
use Rattle.event_times.proofs.least.behind_glider.Goals as goal

pub overflow_sub-reach-in-Some : goal.overflow_sub-reach-in-Some
overflow_sub-reach-in-Some c =
    let near = subst IsNearSent c.in-Some.is c.requires.sent in
    let ll = near.1.0.low in let lh = near.1.0.high in let jl = near.1.1.low in let jh = near.1.1.high in
    omega (arith, ints)

pub later_by-requires-clause-wait : goal.later_by-requires-clause-wait
later_by-requires-clause-wait c =
    let near = subst IsNearSent c.in-Some.is c.requires.sent in
    let ll = near.1.0.low in let lh = near.1.0.high in let jl = near.1.1.low in let jh = near.1.1.high in
    record { low = omega (arith, ints); high = omega (arith, ints) }

pub returns-in-Some-clause-from : goal.returns-in-Some-clause-from
returns-in-Some-clause-from c =
    let near = subst IsNearSent c.in-Some.is c.requires.sent in
    let ll = near.1.0.low in let lh = near.1.0.high in let jl = near.1.1.low in let jh = near.1.1.high in
    rw c.in-Some.is (λ start. (
      λ h. (let b = h.1 in (c.later_by.ensures.from start).0 (h.0, omega (arith, ints))),
      λ l. (let r = (c.later_by.ensures.from start).1 l in let b = r.1 in (r.0, omega (arith, ints))),
    ))
