use Rattle.std.proofs.Common.{arith}
use Rattle.std.proofs.lemmas.Int.{ints}
use Rattle.recipe_turn.proofs.Fronts.{front_fails, front_holds, throw_limits}
use Rattle.recipe_turn.proofs.turn_ends.test_front.Goals as goal
use Rattle.book_parts.specs.LimitLaws.{coordinate_read, index_read}

pub returns-then-u-settings-clause-refusal : goal.returns-then-u-settings-clause-refusal
returns-then-u-settings-clause-refusal c =
    let limits = throw_limits c.args.end c.in-Emit.kind c.in-Emit.shift c.in-Emit.lane c.in-Emit.j c.in-Emit.is c.requires.end in
    front_fails c.args.settings.now c.args.end c.in-Emit.kind c.in-Emit.shift c.in-Emit.lane c.in-Emit.j _ _ _ _ c.in-Emit.is (coordinate_read _ limits.1.0) (index_read _ limits.1.1)
    (omega (arith, ints)) c.least_u-u.ensures (omega (arith, ints))

pub returns-clause-front : goal.returns-clause-front
returns-clause-front c =
    let limits = throw_limits c.args.end c.in-Emit.kind c.in-Emit.shift c.in-Emit.lane c.in-Emit.j c.in-Emit.is c.requires.end in
    front_holds c.args.settings.now c.args.end c.in-Emit.kind c.in-Emit.shift c.in-Emit.lane c.in-Emit.j _ _ _ c.in-Emit.is (coordinate_read _ limits.1.0) (index_read _ limits.1.1)
    c.least_u-u.ensures (omega (arith, ints))
