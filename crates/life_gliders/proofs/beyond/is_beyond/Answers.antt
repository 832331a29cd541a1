use Rattle.std.proofs.Common.{◌≡◌, ◌+ℤ◌, ◌-ℤ◌, pos, arith, w64, to_z, of_z}
use Rattle.std.specs.Prelude.{int_le}
use Rattle.std.proofs.lemmas.Int.{ints}
use Rattle.life_gliders.proofs.beyond.is_beyond.Goals as goal

pub returns : goal.returns
returns c =
    let limit : to_z w64 (of_z w64 (to_z w64 (of_z w64 c.args.wall) +ℤ pos 5)) ≡ c.args.wall +ℤ pos 5 = omega (arith, ints) in
    let u : to_z w64 (of_z w64 (to_z w64 (of_z w64 c.args.cell.x) -ℤ to_z w64 (of_z w64 c.args.cell.y))) ≡ c.args.cell.x -ℤ c.args.cell.y = omega (arith, ints) in
    λ i. int_le (limit i) (u i)
