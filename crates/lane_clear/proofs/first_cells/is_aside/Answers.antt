use Rattle.std.proofs.Common.{ℤ, pos, ◌+ℤ◌, ◌-ℤ◌, ◌*ℤ◌, w64, to_z, of_z, arith}
use Rattle.std.proofs.lemmas.Int.{ints}
use Rattle.lane_clear.proofs.CellTests.{aside_test}
use Rattle.lane_clear.proofs.first_cells.is_aside.Goals as goal

pub returns : goal.returns
returns c =
    let lane_range = c.requires.frame.lane in
    let start_range = c.requires.frame.start in
    let lane : ℤ = c.args.frame.lane in
    let start : ℤ = c.args.frame.start in
    let u : ℤ = to_z w64 (of_z w64 (to_z w64 (of_z w64 c.args.cell.x) -ℤ to_z w64 (of_z w64 c.args.cell.y))) in
    let v : ℤ = to_z w64 (of_z w64 (to_z w64 (of_z w64 c.args.cell.x) +ℤ to_z w64 (of_z w64 c.args.cell.y))) in
    let under : ℤ = to_z w64 (of_z w64 (to_z w64 (of_z w64 lane) -ℤ pos 7)) in
    let over : ℤ = to_z w64 (of_z w64 (to_z w64 (of_z w64 lane) +ℤ pos 6)) in
    let ahead : ℤ = to_z w64 (of_z w64 (to_z w64 (of_z w64 (to_z w64 (of_z w64 lane) +ℤ to_z w64 (of_z w64 (pos 2 *ℤ to_z w64 (of_z w64 start))))) +ℤ pos 10)) in
    aside_test lane start c.args.cell.x c.args.cell.y u v under over ahead (omega (arith, ints)) (omega (arith, ints)) (omega (arith, ints)) (omega (arith, ints)) (omega (arith, ints))
