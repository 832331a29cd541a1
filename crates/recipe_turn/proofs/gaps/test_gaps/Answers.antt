use Rattle.std.proofs.Common.{◌-◌, pos, length, refl, arith}
use Rattle.std.proofs.lemmas.Int.{ints}
use Rattle.book_parts.specs.Proper.{IsDelay}
use Rattle.life_plane.specs.ListLaws.{each_at}
use Rattle.recipe_turn.proofs.Spacing.{spaced, not_spaced}
use Rattle.recipe_turn.proofs.gaps.test_gaps.Goals as goal

pub returns-then-from-delays-clause-refusal : goal.returns-then-from-delays-clause-refusal
returns-then-from-delays-clause-refusal c =
    let ds = c.args.delays.now in
    let last = each_at IsDelay ds c.requires.delays (length ds - 1) (pos 0) (omega arith) in
    let low = last.low in let high = last.high in
    (refl, (c.in_default.ensures, not_spaced ds (pos c.args.n) (length ds - 1) (omega arith) (omega (arith, ints, c.from.ensures))))

pub returns-clause-spaced : goal.returns-clause-spaced
returns-clause-spaced c =
    let ds = c.args.delays.now in
    let last = each_at IsDelay ds c.requires.delays (length ds - 1) (pos 0) (omega arith) in
    let low = last.low in let high = last.high in
    spaced ds (pos c.args.n) (length ds - 1) (omega arith) c.in_default.ensures (omega (arith, ints, c.from.ensures))
