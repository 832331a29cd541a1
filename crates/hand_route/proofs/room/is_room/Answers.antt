use Rattle.std.proofs.Common.{w64, to_z, of_z, arith}
use Rattle.std.proofs.lemmas.Int.{ints}
use Rattle.hand_route.proofs.Indexed.{room_test}
use Rattle.hand_route.proofs.room.is_room.Goals as goal

pub returns : goal.returns
returns c =
    let b = c.args.bounds in
    room_test b (to_z w64 (of_z w64 b.left)) (to_z w64 (of_z w64 b.top)) (to_z w64 (of_z w64 b.right)) (to_z w64 (of_z w64 b.bottom)) c.is_side-columns.result c.is_side-rows.result
    (omega (arith, ints)) (omega (arith, ints)) (omega (arith, ints)) (omega (arith, ints)) c.is_side-columns.ensures c.is_side-rows.ensures
