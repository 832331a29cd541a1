use Rattle.std.proofs.Common.{◌≡◌, ◌-ℤ◌, ◌∙◌, w64, to_z, of_z, arith}
use Rattle.std.proofs.lemmas.Int.{ints}
use Rattle.build_plan.proofs.fitting.less.Goals as goal

pub returns : goal.returns
returns c =
    let a = c.args.cell in
    let b = c.args.by in
    let x : to_z w64 (of_z w64 (to_z w64 (of_z w64 a.x) -ℤ to_z w64 (of_z w64 b.x))) ≡ a.x -ℤ b.x = omega (arith, ints) in
    let y : to_z w64 (of_z w64 (to_z w64 (of_z w64 a.y) -ℤ to_z w64 (of_z w64 b.y))) ≡ a.y -ℤ b.y = omega (arith, ints) in
    c.new.ensures ∙ (λ i. record { y = y i; x = x i })
