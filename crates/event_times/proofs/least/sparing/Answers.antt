use Rattle.std.proofs.Common.{◌≡◌, w64, to_z, of_z, ap, ◌∙◌, arith}
use Rattle.std.proofs.lemmas.Int.{ints, clamps}
use Rattle.life_scene.specs.Hits.{last_index_before}
use Rattle.recipe_hit.specs.SceneBoxes.{as_box}
use Rattle.event_times.proofs.LeastStarts.{spared_from}
use Rattle.event_times.proofs.least.sparing.Goals as goal

pub overflow_cast-result : goal.overflow_cast-result
overflow_cast-result c = let v = c.max.ensures.value in let w = c.min.ensures.value in omega (arith, ints, clamps)

pub returns-clause-from : goal.returns-clause-from
returns-clause-from c =
    let v = c.max.ensures.value in
    let w = c.min.ensures.value in
    let ll = c.requires.glider.0.low in
    let lh = c.requires.glider.0.high in
    let low = c.last_before.ensures.range.low in
    let high = c.last_before.ensures.range.high in
    let lane_is : to_z w64 (of_z w64 c.args.glider.lane) ≡ c.args.glider.lane = omega (arith, ints) in
    spared_from c.args.hit.end c.args.glider.j c.last_before.result _ _ (c.last_before.ensures.last ∙ ap (λ l. last_index_before l (as_box c.args.hit.bounds)) lane_is) (omega (arith, ints, clamps))

pub returns-clause-small : goal.returns-clause-small
returns-clause-small c = let v = c.max.ensures.value in let w = c.min.ensures.value in let early = c.requires.hit.0 in omega (arith, ints, clamps)
