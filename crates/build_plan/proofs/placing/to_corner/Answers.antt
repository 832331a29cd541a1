use Rattle.std.proofs.Common.{◌≡◌, ◌-ℤ◌, ◌∙◌, w64, to_z, of_z, arith}
use Rattle.std.proofs.lemmas.Int.{ints}
use Rattle.build_plan.proofs.placing.to_corner.Goals as goal

pub returns : goal.returns
returns c =
    let b = c.args.bounds in
    let corner = c.args.settings.now.corner in
    let corner_x = c.requires.settings.corner_x in
    let corner_y = c.requires.settings.corner_y in
    let x : to_z w64 (of_z w64 (to_z w64 (of_z w64 corner.x) -ℤ to_z w64 (of_z w64 b.left))) ≡ corner.x -ℤ b.left = omega (arith, ints) in
    let y : to_z w64 (of_z w64 (to_z w64 (of_z w64 corner.y) -ℤ to_z w64 (of_z w64 b.bottom))) ≡ corner.y -ℤ b.bottom = omega (arith, ints) in
    c.new.ensures ∙ (λ i. record { y = y i; x = x i })
