use Rattle.std.proofs.Common.{◌≡◌}
use Rattle.life_sample.specs.Sample.{blocks}
use Rattle.life_sample.proofs.blocks.blocks.Given as goal

abbrev pub invariant-loop-place : goal.invariant-loop-place
invariant-loop-place l = l.cells.items ≡ blocks l.gap l.place
