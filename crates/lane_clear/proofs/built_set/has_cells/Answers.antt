use Rattle.std.proofs.Common.{w64, to_z, of_z, arith}
use Rattle.std.proofs.lemmas.Int.{ints}
use Rattle.lane_clear.proofs.Near.{has_cells_test}
use Rattle.lane_clear.proofs.built_set.has_cells.Goals as goal

pub returns : goal.returns
returns c =
    let b = c.args.bounds in
    has_cells_test b (to_z w64 (of_z w64 b.left)) (to_z w64 (of_z w64 b.top)) (to_z w64 (of_z w64 b.right)) (to_z w64 (of_z w64 b.bottom))
    (omega (arith, ints)) (omega (arith, ints)) (omega (arith, ints)) (omega (arith, ints))
