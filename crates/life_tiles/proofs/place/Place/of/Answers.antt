use Rattle.std.proofs.Common.{w64, ap, ◌∙◌, rules, pos}
use Rattle.std.specs.Int.{int_div_euclid}
use Rattle.std.proofs.lemmas.Int.{to_z-of_z}
use mir.Val.{SFits}
use Rattle.life_kernel.specs.Words.{part}
use Rattle.life_tiles.proofs.place.Place.of.Goals as goal

pub returns : goal.returns
unfolding part
returns c =
    let f : SFits w64 c.div_euclid.result = search rules in
    let g : SFits w64 c.div_euclid-2.result = search rules in
    let y : SFits w64 c.args.cell.y = search rules in
    let x : SFits w64 c.args.cell.x = search rules in
    let down = to_z-of_z w64 _ f ∙ c.div_euclid.ensures ∙ ap (λ z. int_div_euclid z (pos 64)) (to_z-of_z w64 _ y) in
    let right = to_z-of_z w64 _ g ∙ c.div_euclid-2.ensures ∙ ap (λ z. int_div_euclid z (pos 64)) (to_z-of_z w64 _ x) in
    λ i. record { row = down i; column = right i }
