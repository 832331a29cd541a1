use Rattle.std.proofs.Common.{ℤ, pos, ◌+ℤ◌, ◌*ℤ◌, w64, to_z, of_z, refl, arith}
use Rattle.std.proofs.lemmas.Int.{ints}
use Rattle.lane_clear.proofs.Kept.{free_lane_test, barrier_test}
use Rattle.lane_clear.proofs.built_set.BuiltSet.is_aside.Goals as goal

pub returns-in-Some : goal.returns-in-Some
returns-in-Some c =
    let lane_range = c.requires.lane in
    let start_range = c.requires.start in
    let lane : ℤ = to_z w64 (of_z w64 c.args.frame.lane) in
    let twice : ℤ = to_z w64 (of_z w64 (pos 2 *ℤ to_z w64 (of_z w64 c.args.frame.start))) in
    let ahead : ℤ = to_z w64 (of_z w64 (to_z w64 (of_z w64 (lane +ℤ twice)) +ℤ pos 10)) in
    let read : ℤ = to_z w64 (of_z w64 c.in-Some.u.now) in
    barrier_test c.self.inside.cells c.args.self.now c.self.inside.barriers c.args.frame c.in-Some.u.now ahead read c.self.view_is c.self.invariant.1 c.in-Some.ensures.value (omega (arith, ints)) (omega (arith, ints))

pub returns-in-None : goal.returns-in-None
returns-in-None c = (λ _. free_lane_test c.self.inside.cells c.args.self.now c.self.inside.barriers c.args.frame c.self.view_is c.self.invariant.1 c.in-None.ensures.value, λ _. refl)
