use Rattle.std.proofs.Common.{◌≡◌, ◌^◌, ℤ, pos, neg_ℤ, ◌+ℤ◌, ◌-ℤ◌, ◌≤ℤ◌, w64, to_z, of_z, arith}
use Rattle.std.proofs.lemmas.Int.{ints}
use Rattle.build_plan.proofs.placing.room_about.Goals as goal

-- a side, moved and then moved out
less_room : (b by room : ℤ) → neg_ℤ (pos (2 ^ 40)) ≤ℤ b → b ≤ℤ pos (2 ^ 40) → neg_ℤ (pos (2 ^ 41)) ≤ℤ by → by ≤ℤ pos (2 ^ 41) → pos 0 ≤ℤ room → room ≤ℤ pos (2 ^ 40) →
    to_z w64 (of_z w64 (to_z w64 (of_z w64 (to_z w64 (of_z w64 b) +ℤ to_z w64 (of_z w64 by))) -ℤ to_z w64 (of_z w64 room))) ≡ (b +ℤ by) -ℤ room
less_room b by room b_low b_high by_low by_high room_low room_high = omega (arith, ints)

more_room : (b by room : ℤ) → neg_ℤ (pos (2 ^ 40)) ≤ℤ b → b ≤ℤ pos (2 ^ 40) → neg_ℤ (pos (2 ^ 41)) ≤ℤ by → by ≤ℤ pos (2 ^ 41) → pos 0 ≤ℤ room → room ≤ℤ pos (2 ^ 40) →
    to_z w64 (of_z w64 (to_z w64 (of_z w64 (to_z w64 (of_z w64 b) +ℤ to_z w64 (of_z w64 by))) +ℤ to_z w64 (of_z w64 room))) ≡ (b +ℤ by) +ℤ room
more_room b by room b_low b_high by_low by_high room_low room_high = omega (arith, ints)

pub returns : goal.returns
returns c =
    let b = c.args.bounds in
    let by = c.args.by in
    let room = c.args.settings.now.room in
    let box = c.requires.bounds in
    let at = c.requires.by in
    let proper = c.requires.settings.room in
    let high : room ≤ℤ pos (2 ^ 40) = let h = proper.high in omega (arith, ints) in
    λ i. record {
      left = less_room b.left by.x room box.left_low box.left_high at.x_low at.x_high proper.low high i;
      top = less_room b.top by.y room box.top_low box.top_high at.y_low at.y_high proper.low high i;
      right = more_room b.right by.x room box.right_low box.right_high at.x_low at.x_high proper.low high i;
      bottom = more_room b.bottom by.y room box.bottom_low box.bottom_high at.y_low at.y_high proper.low high i;
    }
