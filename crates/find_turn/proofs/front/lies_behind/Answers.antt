use Rattle.std.proofs.Common.{◌≡◌, ◌+ℤ◌, ◌-ℤ◌, pos, arith, w64, to_z, of_z}
use Rattle.std.specs.Prelude.{int_lt}
use Rattle.std.proofs.lemmas.Int.{ints}
use Rattle.find_turn.proofs.front.lies_behind.Goals as goal

pub returns : goal.returns
returns c =
    let wall = c.requires.settings.wall in
    let low = wall.low in let high = wall.high in
    let limit : to_z w64 (of_z w64 (to_z w64 (of_z w64 c.args.settings.now.wall) +ℤ pos 5)) ≡ c.args.settings.now.wall +ℤ pos 5 = omega (arith, ints) in
    let u : to_z w64 (of_z w64 (to_z w64 (of_z w64 c.args.cell.x) -ℤ to_z w64 (of_z w64 c.args.cell.y))) ≡ c.args.cell.x -ℤ c.args.cell.y = omega (arith, ints) in
    λ i. int_lt (u i) (limit i)
