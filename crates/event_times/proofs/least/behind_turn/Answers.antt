use Rattle.std.proofs.Common.{subst, arith}
use Rattle.std.proofs.lemmas.Int.{ints}
use Rattle.event_times.specs.Least.{IsNearTurn}
use Rattle.event_times.proofs.least.behind_turn.Goals as goal

pub returns-in-Some-clause-from : goal.returns-in-Some-clause-from
returns-in-Some-clause-from c =
    let near = subst IsNearTurn c.in-Some.is c.requires in
    let low = near.1.low in
    let high = near.1.high in
    rw c.in-Some.is (λ start. (
      λ h. (let b = h.1 in (c.later_by.ensures.from start).0 (h.0, omega (arith, ints))),
      λ l. (let r = (c.later_by.ensures.from start).1 l in let b = r.1 in (r.0, omega (arith, ints))),
    ))
