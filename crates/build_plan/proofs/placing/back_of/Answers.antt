use Rattle.std.proofs.Common.{◌≡◌, neg_ℤ, ◌-ℤ◌, pos, ◌∙◌, w64, to_z, of_z, arith}
use Rattle.std.proofs.lemmas.Int.{ints}
use Rattle.build_plan.proofs.placing.back_of.Goals as goal

pub returns : goal.returns
returns c =
    let by = c.args.by in
    let x : to_z w64 (of_z w64 (pos 0 -ℤ to_z w64 (of_z w64 by.x))) ≡ neg_ℤ by.x = omega (arith, ints) in
    let y : to_z w64 (of_z w64 (pos 0 -ℤ to_z w64 (of_z w64 by.y))) ≡ neg_ℤ by.y = omega (arith, ints) in
    c.new.ensures ∙ (λ i. record { y = y i; x = x i })
