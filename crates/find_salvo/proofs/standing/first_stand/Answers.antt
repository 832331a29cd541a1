use Rattle.std.proofs.Common.{◌^◌, sym, subst, arith, length, ap}
use Rattle.life_cells.specs.declared.cell.Cell.{Cell}
use Rattle.life_cells.specs.Cells.{alive}
use Rattle.life_cells.specs.BoxLaws.{range_wider}
use Rattle.life_cells.specs.PlaceLaws.{at_place, each_more}
use Rattle.book_parts.specs.Limits.{farthest}
use Rattle.recipe_hit.specs.InTurnLaws.{hand_range}
use Rattle.find_salvo.specs.Outcomes.{StandsAt, IsFirstStand}
use Rattle.recipe_hit.specs.LiveCellLaws.{live_there}
use Rattle.find_salvo.proofs.Options.{when_some, when_none}
use Rattle.find_salvo.proofs.Stands.{cell_in_range, hand_lives, place_from, stands_nowhere, is_first_stand}
use Rattle.find_salvo.proofs.standing.first_stand.Goals as goal

pub returns-in_default-clause-none : goal.returns-in_default-clause-none
returns-in_default-clause-none c = absurd (hand_lives c.args.hand.now c.requires.hand.lives c.in_default.ensures)

pub place_from-place-requires-clause-first : goal.place_from-place-requires-clause-first
place_from-place-requires-clause-first c =
    cell_in_range (2 ^ 40) c.args.hand.now 0 _ (range_wider farthest (2 ^ 40) _ (hand_range _ c.requires.hand) (omega arith)) (sym c.in-Some.ensures)

pub place_from-place-requires-clause-to : goal.place_from-place-requires-clause-to
place_from-place-requires-clause-to c =
    cell_in_range (2 ^ 40) c.args.left.now c.loop-cell.cell-index _ c.requires.range (at_place c.args.left.now _ c.cells-cell-items.ensures.order c.loop-cell.cell-index _ c.loop-cell-test.true)

pub returns-in-Some-2-clause-some : goal.returns-in-Some-2-clause-some
returns-in-Some-2-clause-some c =
    let hand = alive c.args.hand.now in
    let left = alive c.args.left.now in
    let stands = when_some _ _ _ c.in-Some-2.is c.in_ok-rest.ensures.some in
    subst (IsFirstStand hand left) (sym c.place_from-place.ensures.place)
    (is_first_stand c.args.hand.now c.args.left.now c.in-Some.first _ c.loop-cell.cell-index (live_there c.args.hand.now 0 c.in-Some.first (sym c.in-Some.ensures))
    (at_place c.args.left.now _ c.cells-cell-items.ensures.order c.loop-cell.cell-index _ c.loop-cell-test.true) c.loop-cell.invariant
    (subst (StandsAt hand left) c.place_from-place.ensures.place stands))

pub loop-cell-preserved : goal.loop-cell-preserved
loop-cell-preserved c =
    let hand = alive c.args.hand.now in
    let left = alive c.args.left.now in
    let none = when_none _ _ c.in_default-2.is c.in_ok-rest.ensures.none in
    each_more _ (λ d. StandsAt hand left (place_from c.in-Some.first d) → ⊥) c.loop-cell.cell-index _
    (at_place c.args.left.now _ c.cells-cell-items.ensures.order c.loop-cell.cell-index _ c.loop-cell-test.true) c.loop-cell.invariant
    (subst (λ (p : Cell). StandsAt hand left p → ⊥) c.place_from-place.ensures.place none)

pub returns-clause-none : goal.returns-clause-none
returns-clause-none c =
    stands_nowhere c.args.hand.now c.args.left.now c.in-Some.first c.loop-cell.cell-index (live_there c.args.hand.now 0 c.in-Some.first (sym c.in-Some.ensures))
    (omega (arith, ap length c.cells-cell-items.ensures.order)) c.loop-cell.invariant
