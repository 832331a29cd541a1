use Rattle.std.proofs.Common.{◌≡◌}
use Rattle.life_sample.specs.Sample.{turns}
use Rattle.life_sample.proofs.turns.turns.Given as goal

abbrev pub invariant-loop-before : goal.invariant-loop-before
invariant-loop-before l = l.turns.items ≡ turns l.gap l.before
