use Rattle.std.proofs.Common.{pos, ◌-ℤ◌, ◌≤ℤ◌, arith, w64, to_z, of_z}
use Rattle.std.proofs.lemmas.Int.{ints}
use Rattle.life_plane.specs.NumberLaws.{le_from_test}
use Rattle.recipe_turn.proofs.bounds.is_clear.Goals as goal

pub returns-then-u_of-settings-clause-reach : goal.returns-then-u_of-settings-clause-reach
returns-then-u_of-settings-clause-reach c =
    let range = c.requires.settings.approach.range in
    let limit = c.requires.settings.reach in let limit_high = limit.high in
    let near = le_from_test {a = to_z w64 (of_z w64 c.u_of.result)} {b = to_z w64 (of_z w64 c.args.settings.now.reach)} c.if-u_of-settings.true in
    let kept : (c.args.bounds.right -ℤ c.args.bounds.top) ≤ℤ c.args.settings.now.reach = omega (arith, ints, c.u_of.ensures) in
    λ clear x y box. record { u = omega (arith, ints) }

pub returns-then-u_of-settings-clause-tail : goal.returns-then-u_of-settings-clause-tail
returns-then-u_of-settings-clause-tail c =
    let range = c.requires.settings.approach.range in
    λ clear x y box.
    let far = le_from_test {a = pos 2} {b = to_z w64 (of_z w64 c.ahead_of_tail.result)} clear in
    omega (arith, ints, c.ahead_of_tail.ensures)
