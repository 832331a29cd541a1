use Rattle.std.proofs.Common.{◌≡◌, ◌+ℤ◌, w64, to_z, of_z, arith}
use Rattle.std.proofs.lemmas.Int.{ints}
use Rattle.hand_route.proofs.ways.carried.Goals as goal

pub returns : goal.returns
returns c =
    let from = c.args.from in
    let by = c.args.by in
    let y : to_z w64 (of_z w64 (to_z w64 (of_z w64 from.y) +ℤ to_z w64 (of_z w64 by.y))) ≡ from.y +ℤ by.y = omega (arith, ints) in
    let x : to_z w64 (of_z w64 (to_z w64 (of_z w64 from.x) +ℤ to_z w64 (of_z w64 by.x))) ≡ from.x +ℤ by.x = omega (arith, ints) in
    (λ i. record { y = y i; x = x i })
