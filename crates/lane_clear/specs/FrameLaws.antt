-- The frames of a checked salvo's hits are within what clearance is asked of.
use Rattle.std.proofs.Common.{arith}
use Rattle.std.proofs.lemmas.Int.{ints}
use Rattle.recipe_hit.specs.declared.frame.HitFrame.{HitFrame}
use Rattle.recipe_hit.specs.Checked.{IsSmallFrame}
use Rattle.lane_clear.specs.Frames.{farthest, IsFrameInRange}

pub small_in_range : (f : HitFrame) → IsSmallFrame f → IsFrameInRange farthest f
small_in_range f small =
    let lane = small.lane in let start = small.start in let left = small.left in let top = small.top in let right = small.right in let bottom = small.bottom in
    record {
      lane = record { low = omega (arith, ints); high = omega (arith, ints) };
      start = record { low = omega (arith, ints); high = omega (arith, ints) };
      bounds = record {
        left_low = omega (arith, ints);
        left_high = omega (arith, ints);
        top_low = omega (arith, ints);
        top_high = omega (arith, ints);
        right_low = omega (arith, ints);
        right_high = omega (arith, ints);
        bottom_low = omega (arith, ints);
        bottom_high = omega (arith, ints);
      };
    }
