use Rattle.std.proofs.Common.{w64, ap, ◌∙◌, rules, pos}
use Rattle.std.specs.Prelude.{unsigned_abs}
use Rattle.std.specs.Int.{int_rem_euclid}
use Rattle.std.proofs.lemmas.Int.{to_z-of_z}
use mir.Val.{SFits}
use Rattle.life_kernel.specs.Words.{offset}
use Rattle.life_tiles.proofs.place.right_in_tile.Goals as goal

pub returns : goal.returns
unfolding offset
returns c =
    let f : SFits w64 c.rem_euclid.result = search rules in
    let x : SFits w64 c.args.cell.x = search rules in
    ap unsigned_abs (to_z-of_z w64 _ f ∙ c.rem_euclid.ensures.value ∙ ap (λ n. int_rem_euclid n (pos 64)) (to_z-of_z w64 _ x))
