use Rattle.std.proofs.Common.{◌∙◌, ◌^◌, ap, sym, subst, arith}
use Rattle.std.proofs.lemmas.Int.{ints}
use Rattle.life_gliders.specs.Glider.{IsLaneAtMost}
use Rattle.life_gliders.specs.declared.track.Track.TheVariants.{Salvo}
use Rattle.life_gliders.specs.Listing.{placed, cell_at_rest}
use Rattle.life_gliders.proofs.PlacedCells.{placed_on_lane}
use Rattle.life_gliders.proofs.glider.place.Goals as goal

pub returns-in-Salvo : goal.returns-in-Salvo
returns-in-Salvo c =
    let lane : IsLaneAtMost (2 ^ 61) (Salvo c.in-Salvo.lane) = subst (IsLaneAtMost (2 ^ 61)) c.in-Salvo.is c.requires.lane in
    placed_on_lane c.in-Salvo.lane c.args.quarters _ _ (cell_at_rest c.args.rest) (omega (arith, ints, c.from.ensures, lane.0, lane.1)) (omega (arith, ints, c.from-2.ensures))
    ∙ ap (λ t. placed t c.args.quarters (cell_at_rest c.args.rest)) (sym c.in-Salvo.is)
