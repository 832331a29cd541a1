use Rattle.std.proofs.Common.{◌≡◌, ◌+ℤ◌, pos, arith, w64, to_z, of_z}
use Rattle.std.proofs.lemmas.Int.{ints}
use Rattle.life_cone.proofs.Sides.{split_test, split_sets_apart}
use Rattle.life_cone.proofs.diagonals.split_apart.Goals as goal

pub returns-then-all_at_most-clause-exact : goal.returns-then-all_at_most-clause-exact
returns-then-all_at_most-clause-exact c =
    let here : to_z w64 (of_z w64 c.args.limit) ≡ c.args.limit = omega (arith, ints) in
    let five : to_z w64 (of_z w64 (to_z w64 (of_z w64 c.args.limit) +ℤ pos 5)) ≡ c.args.limit +ℤ pos 5 = omega (arith, ints) in
    split_test _ _ _ _ _ _ _ here five c.all_at_most.ensures c.if-all_at_most.true c.all_at_least.ensures

pub returns-then-all_at_most-clause-apart : goal.returns-then-all_at_most-clause-apart
returns-then-all_at_most-clause-apart c h =
    let here : to_z w64 (of_z w64 c.args.limit) ≡ c.args.limit = omega (arith, ints) in
    let five : to_z w64 (of_z w64 (to_z w64 (of_z w64 c.args.limit) +ℤ pos 5)) ≡ c.args.limit +ℤ pos 5 = omega (arith, ints) in
    split_sets_apart _ _ _ ((split_test _ _ _ _ _ _ _ here five c.all_at_most.ensures c.if-all_at_most.true c.all_at_least.ensures).0 h)
