use Rattle.std.proofs.Common.{◌≡◌, Some, ℤ, subst, arith}
use Rattle.std.proofs.lemmas.Int.{ints}
use Rattle.book_parts.specs.Proper.{IsProperEnd}
use Rattle.event_times.specs.declared.least.Emission.{Emission}
use Rattle.event_times.proofs.clock.emission_of.Goals as goal

abbrev glider : ℤ → ℤ → Emission
glider lane j = record { lane = lane; j = j }

same_glider : {a b x y : ℤ} → a ≡ x → b ≡ y → Some (glider a b) ≡ Some (glider x y)
same_glider p q = λ i. Some (glider (p i) (q i))

pub returns-in-Emit : goal.returns-in-Emit
returns-in-Emit c =
    let proper = subst (IsProperEnd c.requires.end.0) c.in-Emit.is c.requires.end.1 in
    let ll = proper.1.1.0.low in
    let lh = proper.1.1.0.high in
    let jl = proper.1.1.1.low in
    let jh = proper.1.1.1.high in
    rw c.in-Emit.is (same_glider (omega (arith, ints)) (omega (arith, ints)))
