use Rattle.std.proofs.Common.{◌≡◌, ◌^◌, ◌∙◌, pos, ap, arith, w64}
use Rattle.std.specs.Int.{int_div_euclid}
use Rattle.std.proofs.lemmas.Int.{ints, to_z-of_z}
use Rattle.recipe_turn.proofs.Fronts.{quarters_within}
use Rattle.recipe_turn.proofs.turn_ends.least_u.Goals as goal

pub returns : goal.returns
returns c =
    let within = quarters_within (2 ^ 50) c.args.j c.requires.index_low c.requires.index_high in
    let low = within.low in let high = within.high in
    let same : c.div_euclid-quarters.result ≡ int_div_euclid c.args.j (pos 4) = c.div_euclid-quarters.ensures ∙ ap (λ z. int_div_euclid z (pos 4)) (to_z-of_z w64 c.args.j c.ranges.j) in
    omega (arith, ints)
