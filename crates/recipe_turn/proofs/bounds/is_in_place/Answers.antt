use Rattle.std.proofs.Common.{◌-ℤ◌, ◌≤ℤ◌, arith, w64, to_z, of_z}
use Rattle.std.proofs.lemmas.Int.{ints}
use Rattle.recipe_turn.proofs.KindTests.{tail_decides}
use Rattle.recipe_turn.proofs.bounds.is_in_place.Goals as goal

pub returns-then-u_of-settings : goal.returns-then-u_of-settings
returns-then-u_of-settings c =
    let range = c.requires.settings.approach.range in
    let kept : (c.args.cell.x -ℤ c.args.cell.y) ≤ℤ c.args.settings.now.wall = grind (arith, ints) in
    tail_decides c.args.settings.now c.args.cell.x c.args.cell.y (to_z w64 (of_z w64 c.ahead_of_tail.result)) kept (omega (arith, ints, c.ahead_of_tail.ensures))
