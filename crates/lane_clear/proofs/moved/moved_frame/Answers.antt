use Rattle.std.proofs.Common.{◌≡◌, ◌^◌, ◌+ℤ◌, ◌-ℤ◌, w64, to_z, of_z, sym, subst, arith}
use Rattle.std.proofs.lemmas.Int.{ints}
use Rattle.life_cells.specs.Boxes.{IsBoxInRange}
use Rattle.lane_clear.proofs.moved.moved_frame.Goals as goal

pub returns-clause-moved : goal.returns-clause-moved
returns-clause-moved c =
    let f = c.args.frame in
    let at = c.args.at in
    let lane_range = c.requires.frame.lane in
    let start_range = c.requires.frame.start in
    let lane : to_z w64 (of_z w64 (to_z w64 (of_z w64 (to_z w64 (of_z w64 f.lane) +ℤ to_z w64 (of_z w64 at.x))) +ℤ to_z w64 (of_z w64 at.y))) ≡ (f.lane +ℤ at.x) +ℤ at.y = omega (arith, ints) in
    let start : to_z w64 (of_z w64 (to_z w64 (of_z w64 f.start) -ℤ to_z w64 (of_z w64 at.y))) ≡ f.start -ℤ at.y = omega (arith, ints) in
    (λ i. record { lane = lane i; start = start i; bounds = c.moved_bounds.ensures i })

pub returns-clause-range : goal.returns-clause-range
returns-clause-range c =
    let lane_range = c.requires.frame.lane in
    let start_range = c.requires.frame.start in
    let box_range = c.requires.frame.bounds in
    let at = c.args.at in
    let b = c.args.frame.bounds in
    record {
      lane = record { low = omega (arith, ints); high = omega (arith, ints) };
      start = record { low = omega (arith, ints); high = omega (arith, ints) };
      bounds = subst (IsBoxInRange (2 ^ 54)) (sym c.moved_bounds.ensures) (record {
        left_low = omega (arith, ints);
        left_high = omega (arith, ints);
        top_low = omega (arith, ints);
        top_high = omega (arith, ints);
        right_low = omega (arith, ints);
        right_high = omega (arith, ints);
        bottom_low = omega (arith, ints);
        bottom_high = omega (arith, ints);
      });
    }
