use Rattle.std.proofs.Common.{◌≡◌}
use Rattle.life_sample.specs.Sample.{kinds}
use Rattle.life_sample.proofs.kinds.kinds.Given as goal

abbrev pub invariant-loop-before : goal.invariant-loop-before
invariant-loop-before l = l.kinds.items ≡ kinds l.gap l.before
