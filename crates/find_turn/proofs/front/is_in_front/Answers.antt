use Rattle.std.proofs.Common.{◌≡◌, ◌∙◌, pos, ◌+ℤ◌, ◌*ℤ◌, w64, to_z, of_z, arith}
use Rattle.std.specs.Int.{int_div_euclid}
use Rattle.std.proofs.lemmas.Int.{ints, to_z-of_z}
use Rattle.find_turn.proofs.Numbers.{test_decides}
use Rattle.find_turn.proofs.front.is_in_front.Goals as goal

pub returns : goal.returns
returns c =
    let wall = c.requires.settings.wall in
    let low = wall.low in let high = wall.high in
    let here : to_z w64 (of_z w64 (to_z w64 (of_z w64 c.args.settings.now.wall) +ℤ pos 5)) ≡ c.args.settings.now.wall +ℤ pos 5 = omega (arith, ints) in
    let kept : to_z w64 (of_z w64 c.least_u.result) ≡ c.least_u.result = omega (arith, ints) in
    let lane = to_z-of_z w64 c.args.lane c.ranges.lane in
    let index = to_z-of_z w64 c.args.j c.ranges.j in
    let there : to_z w64 (of_z w64 c.least_u.result) ≡ (c.args.lane +ℤ pos 2 *ℤ int_div_euclid c.args.j (pos 4)) +ℤ pos 1 = kept ∙ c.least_u.ensures ∙ (λ i. (lane i +ℤ pos 2 *ℤ int_div_euclid (index i) (pos 4)) +ℤ pos 1) in
    test_decides _ _ _ _ here there
