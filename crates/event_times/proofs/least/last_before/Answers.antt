use Rattle.std.proofs.Common.{◌≡◌, ℤ, pos, ◌+ℤ◌, ◌*ℤ◌, w64, to_z, of_z, ap, ◌∙◌, arith}
use Rattle.std.proofs.lemmas.Int.{ints}
use Rattle.life_scene.specs.Hits.{Box, first_quarter, last_index_before}
use Rattle.recipe_hit.specs.SceneBoxes.{as_box}
use Rattle.event_times.proofs.least.last_before.Goals as goal

last_is : (lane z q : ℤ) (b : Box) → q ≡ first_quarter lane b → z ≡ pos 4 *ℤ q +ℤ pos 3 → z ≡ last_index_before lane b
last_is lane z q b same is = is ∙ ap (λ k. pos 4 *ℤ k +ℤ pos 3) same

pub returns-clause-last : goal.returns-clause-last
returns-clause-last c =
    let lane_is : to_z w64 (of_z w64 c.args.lane) ≡ c.args.lane = omega (arith, ints) in
    let low = c.first_quarter.ensures.range.low in
    let high = c.first_quarter.ensures.range.high in
    last_is c.args.lane _ c.first_quarter.result (as_box c.args.bounds) (c.first_quarter.ensures.quarter ∙ ap (λ l. first_quarter l (as_box c.args.bounds)) lane_is) (omega (arith, ints))

pub returns-clause-range : goal.returns-clause-range
returns-clause-range c =
    let low = c.first_quarter.ensures.range.low in
    let high = c.first_quarter.ensures.range.high in
    record { low = omega (arith, ints); high = omega (arith, ints) }
