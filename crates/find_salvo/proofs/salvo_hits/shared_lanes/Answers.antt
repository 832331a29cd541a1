use Rattle.std.proofs.Common.{◌≡◌, ◌∙◌, ap, sym, get_or, pos, length, ◌<◌, arith, rules}
use Rattle.std.proofs.lemmas.List.{take_more_same, get_or-map, length-map}
use Rattle.recipe_hit.specs.declared.frame.Hit.{Hit}
use Rattle.find_salvo.specs.Kept.{lanes_of}
use Rattle.find_salvo.proofs.salvo_hits.shared_lanes.Goals as goal

pub loop-place-preserved : goal.loop-place-preserved
loop-place-preserved c =
    let place = c.loop-place.place in
    let hits = c.args.hits.now in
    let lanes = c.args.lanes.now in
    let hit = c.index-hits-place.result in
    let lane : get_or lanes place (pos 0) ≡ hit.frame.lane = search rules in
    let lt : place < length lanes = omega (arith, c.loop-place.invariant.within, c.if-place-lanes.false) in
    let at : get_or (lanes_of hits) place (pos 0) ≡ get_or lanes place (pos 0) =
    get_or-map (λ (h : Hit). h.frame.lane) hits place hit (pos 0) c.loop-place-test.true ∙ ap (λ (h : Hit). h.frame.lane) (sym c.index-hits-place.is) ∙ sym lane in
    record {
      within = omega arith;
      shared = take_more_same (lanes_of hits) lanes place (pos 0) (omega (arith, length-map hits (λ (h : Hit). h.frame.lane))) lt c.loop-place.invariant.shared at;
    }
