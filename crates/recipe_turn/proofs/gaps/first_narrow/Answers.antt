use Rattle.std.proofs.Common.{◌≡◌, ℤ, pos, ◌-◌, arith, w64, of_z}
use Rattle.std.proofs.lemmas.Int.{ints}
use Rattle.book_parts.specs.Proper.{IsDelay}
use Rattle.life_plane.specs.ListLaws.{each_at}
use Rattle.recipe_turn.proofs.Spacing.{first_is_narrow, is_narrow, apart_first, apart_more, apart_all}
use Rattle.recipe_turn.proofs.gaps.first_narrow.Goals as goal

of_zero : (z : ℤ) → z ≡ pos 0 → of_z w64 z ≡ 0
of_zero z h = omega (arith, ints)

pub returns-then-delays-ne0 : goal.returns-then-delays-ne0
returns-then-delays-ne0 c = first_is_narrow c.args.delays.now c.requires.some (λ e. c.if-delays-ne0.true (of_zero _ e))

pub loop-place-init : goal.loop-place-init
loop-place-init c =
    let here = each_at IsDelay c.args.delays.now c.requires.delays 0 (pos 0) c.requires.some in
    let low = here.low in let high = here.high in
    apart_first c.args.delays.now c.requires.some (omega (arith, ints))

pub returns-then-delays-place : goal.returns-then-delays-place
returns-then-delays-place c =
    let before = each_at IsDelay c.args.delays.now c.requires.delays (c.loop-place.place - 1) (pos 0) (omega arith) in
    let here = each_at IsDelay c.args.delays.now c.requires.delays c.loop-place.place (pos 0) c.loop-place-test.true in
    let before_low = before.low in let before_high = before.high in let low = here.low in let high = here.high in
    is_narrow c.args.delays.now c.loop-place.place (omega arith) c.loop-place-test.true c.loop-place.invariant (omega (arith, ints))

pub loop-place-preserved : goal.loop-place-preserved
loop-place-preserved c =
    let before = each_at IsDelay c.args.delays.now c.requires.delays (c.loop-place.place - 1) (pos 0) (omega arith) in
    let here = each_at IsDelay c.args.delays.now c.requires.delays c.loop-place.place (pos 0) c.loop-place-test.true in
    let before_low = before.low in let before_high = before.high in let low = here.low in let high = here.high in
    apart_more c.args.delays.now c.loop-place.place (omega arith) c.loop-place-test.true c.loop-place.invariant (omega (arith, ints))

pub returns : goal.returns
returns c = apart_all c.args.delays.now c.loop-place.place (omega arith) c.loop-place.invariant
