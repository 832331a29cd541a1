use Rattle.std.proofs.Common.{arith}
use Rattle.std.proofs.lemmas.Int.{ints}
use Rattle.life_cone.proofs.diagonals.is_at_least.Goals as goal

pub returns : goal.returns
returns c = (λ h. record { u = grind (arith, ints) }, λ p. let u = p.u in grind (arith, ints))
