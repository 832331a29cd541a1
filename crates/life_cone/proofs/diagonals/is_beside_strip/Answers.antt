use Rattle.std.proofs.Common.{ℤ, ◌+ℤ◌, ◌-ℤ◌, pos, arith, w64, to_z, of_z}
use Rattle.std.proofs.lemmas.Int.{ints}
use Rattle.life_cone.proofs.Comparisons.{beside_test}
use Rattle.life_cone.proofs.diagonals.is_beside_strip.Goals as goal

pub returns : goal.returns
returns c =
    let v : ℤ = to_z w64 (of_z w64 (to_z w64 (of_z w64 c.args.cell.x) +ℤ to_z w64 (of_z w64 c.args.cell.y))) in
    let under : ℤ = to_z w64 (of_z w64 (to_z w64 (of_z w64 c.args.low) -ℤ pos 5)) in
    let over : ℤ = to_z w64 (of_z w64 (to_z w64 (of_z w64 c.args.high) +ℤ pos 5)) in
    beside_test v under over c.args.low c.args.high c.args.cell.x c.args.cell.y (omega (arith, ints)) (omega (arith, ints)) (omega (arith, ints))
