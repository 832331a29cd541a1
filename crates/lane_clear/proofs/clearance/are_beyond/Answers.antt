use Rattle.std.proofs.Common.{pos, ◌+ℤ◌, ◌≤ℤ◌, w64, to_z, of_z, arith}
use Rattle.std.proofs.lemmas.Int.{ints}
use Rattle.life_plane.specs.NumberLaws.{le_from_test, test_from_le}
use Rattle.lane_clear.proofs.clearance.are_beyond.Goals as goal

pub returns : goal.returns
returns c =
    let reach = c.requires.settings.reach in
    let u = c.least_u.ensures in (
      λ h. let le : to_z w64 (of_z w64 (to_z w64 (of_z w64 c.args.settings.now.reach) +ℤ pos 5)) ≤ℤ to_z w64 (of_z w64 c.least_u.result) = le_from_test h in omega (arith, ints),
      λ beyond.
          let le : to_z w64 (of_z w64 (to_z w64 (of_z w64 c.args.settings.now.reach) +ℤ pos 5)) ≤ℤ to_z w64 (of_z w64 c.least_u.result) = omega (arith, ints) in
          test_from_le le,
    )
