use Rattle.std.proofs.Common.{◌≡◌, ◌+◌, ◌*◌, ◌<◌, ◌-ℤ◌, w64, to_z, of_z, sym, subst, ap, ◌∙◌, arith}
use Rattle.std.specs.Prelude.{unsigned_abs}
use Rattle.std.proofs.lemmas.Int.{ints}
use Rattle.hand_route.specs.Rooms.{size_of, index_in}
use Rattle.hand_route.proofs.Indexed.{index_within}
use Rattle.hand_route.proofs.room.index.Goals as goal

pub returns-clause-within : goal.returns-clause-within
returns-clause-within c =
    let room = c.args.room in
    let at = c.args.at in
    let y : to_z w64 (of_z w64 at.y) -ℤ to_z w64 (of_z w64 room.top) ≡ at.y -ℤ room.top = omega (arith, ints) in
    let x : to_z w64 (of_z w64 at.x) -ℤ to_z w64 (of_z w64 room.left) ≡ at.x -ℤ room.left = omega (arith, ints) in
    let row : c.past.result ≡ unsigned_abs (at.y -ℤ room.top) = c.past.ensures ∙ ap unsigned_abs y in
    let column : c.past-2.result ≡ unsigned_abs (at.x -ℤ room.left) = c.past-2.ensures ∙ ap unsigned_abs x in
    let is : index_in room at ≡ c.past.result * c.width.result + c.past-2.result = sym (λ i. row i * c.width.ensures i + column i) in
    subst (λ n. n < size_of room) is (index_within room at c.requires.room c.requires.at)
