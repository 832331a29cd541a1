use Rattle.std.proofs.Common.{w64, to_z, of_z, arith}
use Rattle.std.proofs.lemmas.Int.{ints}
use Rattle.lane_clear.proofs.BoxRows.{in_box_test}
use Rattle.lane_clear.proofs.rows.has_cell.Goals as goal

pub returns : goal.returns
returns c =
    let b = c.args.bounds in
    let it = c.args.cell in
    in_box_test b it (to_z w64 (of_z w64 b.left)) (to_z w64 (of_z w64 b.top)) (to_z w64 (of_z w64 b.right)) (to_z w64 (of_z w64 b.bottom)) (to_z w64 (of_z w64 it.x)) (to_z w64 (of_z w64 it.y))
    (omega (arith, ints)) (omega (arith, ints)) (omega (arith, ints)) (omega (arith, ints)) (omega (arith, ints)) (omega (arith, ints))
