use Rattle.std.proofs.Common.{◌≡◌, ◌+ℤ◌, w64, to_z, of_z, arith}
use Rattle.std.proofs.lemmas.Int.{ints}
use Rattle.build_plan.proofs.throwing.throw_for.Goals as goal

pub returns : goal.returns
returns c =
    let lane = c.args.hit.now.frame.lane in
    let at = c.args.at in
    let small = c.requires.hit.lane in
    let moved : to_z w64 (of_z w64 (to_z w64 (of_z w64 (to_z w64 (of_z w64 lane) +ℤ to_z w64 (of_z w64 at.x))) +ℤ to_z w64 (of_z w64 at.y))) ≡ (lane +ℤ at.x) +ℤ at.y = omega (arith, ints) in
    λ i. record { salvo = c.args.salvo; place = c.args.place; at = at; lane = moved i }
