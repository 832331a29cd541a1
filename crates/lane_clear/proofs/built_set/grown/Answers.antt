use Rattle.std.proofs.Common.{◌≡◌, ◌+ℤ◌, ◌-ℤ◌, pos, w64, to_z, of_z, arith}
use Rattle.std.proofs.lemmas.Int.{ints}
use Rattle.lane_clear.proofs.built_set.grown.Goals as goal

pub returns : goal.returns
returns c =
    let b = c.args.bounds in
    let left : to_z w64 (of_z w64 (to_z w64 (of_z w64 b.left) -ℤ pos 2)) ≡ b.left -ℤ pos 2 = omega (arith, ints) in
    let top : to_z w64 (of_z w64 (to_z w64 (of_z w64 b.top) -ℤ pos 2)) ≡ b.top -ℤ pos 2 = omega (arith, ints) in
    let right : to_z w64 (of_z w64 (to_z w64 (of_z w64 b.right) +ℤ pos 2)) ≡ b.right +ℤ pos 2 = omega (arith, ints) in
    let bottom : to_z w64 (of_z w64 (to_z w64 (of_z w64 b.bottom) +ℤ pos 2)) ≡ b.bottom +ℤ pos 2 = omega (arith, ints) in
    (λ i. record { left = left i; top = top i; right = right i; bottom = bottom i })
