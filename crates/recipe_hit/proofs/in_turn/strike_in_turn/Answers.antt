use Rattle.std.proofs.Common.{◌+◌, ◌*◌, ◌^◌, ℤ, pos, w64, to_z, of_z, List, [], get_or, subst, sym, arith}
use Rattle.std.proofs.lemmas.Int.{ints}
use Rattle.std.proofs.lemmas.Result.{err_from_is_err_and}
use Rattle.life_plane.specs.ListLaws.{each_at}
use Rattle.life_cells.specs.Cells.{alive}
use Rattle.life_cells.specs.Boxes.{IsInRange}
use Rattle.life_cells.specs.BoxLaws.{range_wider}
use Rattle.book_parts.specs.Limits.{IsCoordinate, farthest}
use Rattle.recipe_hit.specs.declared.frame.Hit.{Hit}
use Rattle.recipe_hit.specs.Sound.{AreHits, what_is_left}
use Rattle.recipe_hit.specs.Checked.{AreSmallFrames}
use Rattle.recipe_hit.specs.InTurnLaws.{left_is, small_after, range_after, hand_range}
use Rattle.recipe_hit.proofs.Missing.{missed_here, turns_more}
use Rattle.recipe_hit.proofs.in_turn.strike_in_turn.Goals as goal
use Rattle.recipe_hit.specs.Strike.{beyond}
use Rattle.book_parts.specs.LimitLaws.{coordinate_read}

pub loop-place-init : goal.loop-place-init
loop-place-init g c = record {
  hits = subst (AreHits (alive c.args.hand.now) []) (sym c.new-hits.ensures.items) tt;
  small = subst AreSmallFrames (sym c.new-hits.ensures.items) tt;
  range = subst (λ (hits : List Hit). IsInRange farthest (what_is_left (alive c.args.hand.now) hits)) (sym c.new-hits.ensures.items) (hand_range (alive c.args.hand.now) c.requires.hand);
  least = omega arith;
  most = omega arith;
}

pub strike-requires-clause-range : goal.strike-requires-clause-range
strike-requires-clause-range g c =
    subst (IsInRange (2 ^ 40)) (sym (left_is (alive c.args.hand.now) (alive c.left_by.result.now) c.loop-place.hits.items _ c.left_by.ensures c.deref.ensures.value))
    (range_wider (farthest + beyond * c.loop-place.place) (2 ^ 40) _ c.loop-place.invariant.range (omega arith))

pub strike-requires-clause-low : goal.strike-requires-clause-low
strike-requires-clause-low g c =
    let on = each_at IsCoordinate c.args.lanes.now c.requires.lanes c.loop-place.place (pos 0) c.loop-place-test.true in
    let low = on.low in let high = on.high in omega (arith, ints)

pub strike-requires-clause-high : goal.strike-requires-clause-high
strike-requires-clause-high g c =
    let on = each_at IsCoordinate c.args.lanes.now c.requires.lanes c.loop-place.place (pos 0) c.loop-place-test.true in
    let low = on.low in let high = on.high in omega (arith, ints)

pub returns-in_err-next-clause-refusal : goal.returns-in_err-next-clause-refusal
returns-in_err-next-clause-refusal g c =
    let on = each_at IsCoordinate c.args.lanes.now c.requires.lanes c.loop-place.place (pos 0) c.loop-place-test.true in
    let same = err_from_is_err_and c.from_residual.result c.from_residual.ensures.1 in
    rw (same.1, same.2) (missed_here (alive c.args.hand.now) (alive c.left_by.result.now) c.args.lanes.now c.loop-place.hits.items c.loop-place.place (pos 0) _ c.loop-place-test.true
    c.loop-place.invariant.hits (left_is (alive c.args.hand.now) (alive c.left_by.result.now) c.loop-place.hits.items _ c.left_by.ensures c.deref.ensures.value) (coordinate_read _ on) c.in_err-next.field-0.0 c.in_err-next.ensures.refusal)

pub loop-place-preserved : goal.loop-place-preserved
loop-place-preserved g c =
    let start = alive c.args.hand.now in
    let struck = alive c.left_by.result.now in
    let hits = c.loop-place.hits.items in
    let all = c.push.new.self.items in
    let place = c.loop-place.place in
    let hit = c.in_ok-next.next in
    let lane : ℤ = to_z w64 (of_z w64 (get_or c.args.lanes.now place (pos 0))) in
    let on = each_at IsCoordinate c.args.lanes.now c.requires.lanes place (pos 0) c.loop-place-test.true in
    let read = coordinate_read (get_or c.args.lanes.now place (pos 0)) on in
    let left = left_is start struck hits _ c.left_by.ensures c.deref.ensures.value in
    let range = subst (IsInRange (farthest + beyond * place)) (sym left) c.loop-place.invariant.range in
    let is = c.in_ok-next.ensures.hit in
    let grown = c.in_ok-push.ensures.items in
    record {
      hits = turns_more start struck c.args.lanes.now hits all place (pos 0) lane hit c.loop-place-test.true c.loop-place.invariant.hits left read is grown;
      small = small_after struck hits all place lane hit (omega arith) (subst IsCoordinate (sym read) on) range is grown c.loop-place.invariant.small;
      range = range_after start struck hits all place lane hit range is grown;
      least = let least = c.strike.ensures.least in omega arith;
      most = let most = c.strike.ensures.most in omega arith;
    }
