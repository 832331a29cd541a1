use Rattle.std.proofs.Common.{◌≡◌, ◌∙◌, ap, rules, pos, SFits, w64, to_z, of_z}
use Rattle.std.specs.Int.{int_div_euclid, int_rem_euclid}
use Rattle.std.specs.Prelude.{unsigned_abs}
use Rattle.std.proofs.lemmas.Int.{to_z-of_z}
use Rattle.life_cells.specs.Listed.{listed}
use Rattle.life_gliders.specs.Listing.{placed, quarters}
use Rattle.life_gliders.proofs.PlacedCells.{five_placed, listed-glider_list}
use Rattle.life_gliders.proofs.glider.cells_on.Goals as goal
use Rattle.life_plane.specs.Tracks.{phase}
use Rattle.std.proofs.Common.{map}

pub returns-clause-order : goal.returns-clause-order
returns-clause-order c =
    let index : to_z w64 (of_z w64 c.args.j) ≡ c.args.j = to_z-of_z w64 c.args.j c.ranges.j in
    let fits : SFits w64 c.div_euclid-quarters.result = search rules in
    let far : to_z w64 (of_z w64 c.div_euclid-quarters.result) ≡ quarters c.args.j = to_z-of_z w64 _ fits ∙ c.div_euclid-quarters.ensures ∙ ap (λ z. int_div_euclid z (pos 4)) index in
    let small : SFits w64 c.rem_euclid-number.result = search rules in
    let number : unsigned_abs (to_z w64 (of_z w64 c.rem_euclid-number.result)) ≡ unsigned_abs (int_rem_euclid c.args.j (pos 4)) =
    ap unsigned_abs (to_z-of_z w64 _ small ∙ c.rem_euclid-number.ensures.value ∙ ap (λ z. int_rem_euclid z (pos 4)) index) in
    five_placed _ _ _ c.phase_at_rest.result _ _ _ _ _ c.phase_at_rest.ensures c.place.ensures c.place-2.ensures c.place-3.ensures c.place-4.ensures c.place-5.ensures
    ∙ (λ i. map (placed c.args.track (far i)) (phase (number i)))

pub returns-clause-cells : goal.returns-clause-cells
returns-clause-cells c = ap listed (returns-clause-order c) ∙ listed-glider_list c.args.track c.args.j
