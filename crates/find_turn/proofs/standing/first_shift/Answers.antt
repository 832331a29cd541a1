use Rattle.std.proofs.Common.{◌<◌, length, pos, arith}
use Rattle.std.proofs.lemmas.Int.{ints}
use Rattle.life_cells.specs.Cells.{cell}
use Rattle.find_turn.proofs.Moving.{first_advance}
use Rattle.find_turn.proofs.standing.first_shift.Goals as goal

pub returns-clause-only : goal.returns-clause-only
returns-clause-only c a is =
    let z = cell (pos 0) (pos 0) in
    let some : 0 < length c.args.to.now = omega arith in
    let from = c.requires.from_range 0 z c.requires.some in
    let to = c.requires.to_range 0 z some in
    let from_low = from.y_low in let from_high = from.y_high in
    let to_low = to.y_low in let to_high = to.y_high in
    let up = first_advance c.args.from.now c.args.to.now a z z c.requires.some is in
    omega (arith, ints, up)
