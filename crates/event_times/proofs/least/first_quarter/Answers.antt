use Rattle.std.proofs.Common.{arith}
use Rattle.std.proofs.lemmas.Int.{ints, clamps}
use Rattle.event_times.proofs.least.first_quarter.Goals as goal

pub returns-clause-quarter : goal.returns-clause-quarter
returns-clause-quarter c = let v = c.max.ensures.value in omega (arith, ints, clamps)

pub returns-clause-range : goal.returns-clause-range
returns-clause-range c = let v = c.max.ensures.value in record { low = omega (arith, ints, clamps); high = omega (arith, ints, clamps) }
