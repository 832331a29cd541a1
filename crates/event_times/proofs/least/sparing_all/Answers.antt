use Rattle.std.proofs.Common.{ℕ, arith}
use Rattle.event_times.specs.declared.least.HitTime.{HitTime}
use Rattle.event_times.specs.Events.{IsSpared}
use Rattle.event_times.specs.Least.{been}
use Rattle.event_times.proofs.LeastStarts.{spares_more, spares_all}
use Rattle.event_times.proofs.least.sparing_all.Goals as goal

pub loop-hit-preserved : goal.loop-hit-preserved
loop-hit-preserved c =
    λ thrown. rw c.max-first.ensures (spares_more (λ (n : ℕ) (hit : HitTime). IsSpared n c.args.glider.lane c.args.glider.j (been hit)) c.args.hits.now c.loop-hit.hit-index _ c.args.from c.loop-hit.first c.sparing.result
    c.loop-hit-test.true c.sparing.ensures.from c.loop-hit.invariant thrown)

pub returns-clause-from : goal.returns-clause-from
returns-clause-from c =
    spares_all (λ (n : ℕ) (hit : HitTime). IsSpared n c.args.glider.lane c.args.glider.j (been hit)) c.args.hits.now c.loop-hit.hit-index c.args.from c.loop-hit.first c.loop-hit-test.false c.loop-hit.invariant

pub returns-clause-least : goal.returns-clause-least
returns-clause-least c = ((c.loop-hit.invariant c.loop-hit.first).1 (omega arith)).0
