use Rattle.std.proofs.Common.{◌≡◌, ◌/◌, ◌%◌, pos, ◌+ℤ◌, ◌-ℤ◌, w64, to_z, of_z, arith}
use Rattle.std.proofs.lemmas.Int.{ints}
use Rattle.life_tiles.proofs.place.Place.neighbour.Goals as goal

pub returns : goal.returns
returns c =
    let near = c.requires.near in
    let a = near.left in
    let b = near.right in
    let d = near.top in
    let e = near.bottom in
    let row : to_z w64 (of_z w64 (to_z w64 (of_z w64 (to_z w64 (of_z w64 c.args.self.row) +ℤ to_z w64 (c.args.direction / 3))) -ℤ pos 1)) ≡ (c.args.self.row +ℤ pos (c.args.direction / 3)) -ℤ pos 1 = omega (arith, ints) in
    let column : to_z w64 (of_z w64 (to_z w64 (of_z w64 (to_z w64 (of_z w64 c.args.self.column) +ℤ to_z w64 (c.args.direction % 3))) -ℤ pos 1)) ≡ (c.args.self.column +ℤ pos (c.args.direction % 3)) -ℤ pos 1 = omega (arith, ints) in
    λ i. record { row = row i; column = column i }
