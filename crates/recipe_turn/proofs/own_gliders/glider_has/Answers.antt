use Rattle.std.proofs.Common.{◌∙◌, ◌-ℤ◌, pos, ap, arith, w64, to_z, of_z}
use Rattle.std.proofs.lemmas.Int.{ints}
use Rattle.life_plane.specs.Plane.{Plane}
use Rattle.life_plane.specs.NumberLaws.{lt_from_test}
use Rattle.recipe_turn.proofs.Delays.{off_glider}
use Rattle.recipe_turn.proofs.own_gliders.glider_has.Goals as goal
use Rattle.book_parts.specs.LimitLaws.{delay_read}
use Rattle.recipe_turn.specs.Gliders.{own}

pub returns-then-past-lt1 : goal.returns-then-past-lt1
returns-then-past-lt1 c =
    let range = c.requires.settings.approach.range in
    let early = lt_from_test {a = to_z w64 (of_z w64 c.past_glider-past.result)} {b = pos 1} c.if-past-lt1.true in
    off_glider ((pos c.args.t -ℤ c.args.settings.now.approach) -ℤ c.args.delay) c.args.cell.x c.args.cell.y
    (λ on. let behind = on.behind in omega (arith, ints, early, c.past_glider-past.ensures))

pub returns-then-past-gt8 : goal.returns-then-past-gt8
returns-then-past-gt8 c =
    let range = c.requires.settings.approach.range in
    let late = lt_from_test {a = pos 8} {b = to_z w64 (of_z w64 c.past_glider-past.result)} c.if-past-gt8.true in
    off_glider ((pos c.args.t -ℤ c.args.settings.now.approach) -ℤ c.args.delay) c.args.cell.x c.args.cell.y
    (λ on. let ahead = on.ahead in omega (arith, ints, late, c.past_glider-past.ensures))

pub returns : goal.returns
returns c =
    c.has_cell.ensures ∙ ap (λ (p : Plane). p c.args.cell.x c.args.cell.y) c.glider_at.ensures
    ∙ ap (λ z. own c.args.settings.now (pos c.args.t) z c.args.cell.x c.args.cell.y) (delay_read c.args.delay c.requires.delay)
