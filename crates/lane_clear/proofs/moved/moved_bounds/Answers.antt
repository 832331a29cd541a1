use Rattle.std.proofs.Common.{◌≡◌, ◌+ℤ◌, w64, to_z, of_z, arith}
use Rattle.std.proofs.lemmas.Int.{ints}
use Rattle.lane_clear.proofs.moved.moved_bounds.Goals as goal

pub returns : goal.returns
returns c =
    let b = c.args.bounds in
    let at = c.args.at in
    let left : to_z w64 (of_z w64 (to_z w64 (of_z w64 b.left) +ℤ to_z w64 (of_z w64 at.x))) ≡ b.left +ℤ at.x = omega (arith, ints) in
    let top : to_z w64 (of_z w64 (to_z w64 (of_z w64 b.top) +ℤ to_z w64 (of_z w64 at.y))) ≡ b.top +ℤ at.y = omega (arith, ints) in
    let right : to_z w64 (of_z w64 (to_z w64 (of_z w64 b.right) +ℤ to_z w64 (of_z w64 at.x))) ≡ b.right +ℤ at.x = omega (arith, ints) in
    let bottom : to_z w64 (of_z w64 (to_z w64 (of_z w64 b.bottom) +ℤ to_z w64 (of_z w64 at.y))) ≡ b.bottom +ℤ at.y = omega (arith, ints) in
    (λ i. record { left = left i; top = top i; right = right i; bottom = bottom i })
