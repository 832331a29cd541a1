use Rattle.std.proofs.Common.{◌≡◌, ◌^◌, ◌∙◌, ◌+ℤ◌, true, sym, ap, length, arith, refl}
use Rattle.life_cells.specs.declared.cell.Cell.{Cell}
use Rattle.life_cells.specs.Cells.{alive}
use Rattle.life_cells.specs.BoxLaws.{range_wider}
use Rattle.life_cells.specs.PlaceLaws.{at_place, live_at, each_more}
use Rattle.book_parts.specs.Limits.{farthest}
use Rattle.recipe_hit.specs.InTurnLaws.{hand_range}
use Rattle.find_salvo.proofs.Stands.{cell_in_range, part_from_cells, not_part}
use Rattle.find_salvo.proofs.standing.lies_in.Goals as goal

pub moved_to-requires-clause-at : goal.moved_to-requires-clause-at
moved_to-requires-clause-at c =
    cell_in_range (2 ^ 41) c.args.hand.now c.loop-cell.cell-index _ (range_wider farthest (2 ^ 41) _ (hand_range _ c.requires.hand) (omega arith))
    (at_place c.args.hand.now _ c.cells-cell-items.ensures.order c.loop-cell.cell-index _ c.loop-cell-test.true)

pub returns-then-not-contains : goal.returns-then-not-contains
returns-then-not-contains c = (
  λ h. absurd (cc),
  λ part. absurd (not_part (alive c.args.hand.now) (alive c.args.left.now) c.args.place _ _ (live_at c.args.hand.now _ c.cells-cell-items.ensures.order c.loop-cell.cell-index _ c.loop-cell-test.true)
      (ap (λ (at : Cell). alive c.args.left.now at.x at.y) (sym c.moved_to.ensures) ∙ sym c.contains.ensures ∙ c.if-not-contains.true) part),
)

pub loop-cell-preserved : goal.loop-cell-preserved
loop-cell-preserved c =
    each_more _ (λ d. alive c.args.left.now (d.x +ℤ c.args.place.x) (d.y +ℤ c.args.place.y) ≡ true) c.loop-cell.cell-index _
    (at_place c.args.hand.now _ c.cells-cell-items.ensures.order c.loop-cell.cell-index _ c.loop-cell-test.true) c.loop-cell.invariant
    (ap (λ (at : Cell). alive c.args.left.now at.x at.y) (sym c.moved_to.ensures) ∙ sym c.contains.ensures ∙ c.if-not-contains.false)

pub returns : goal.returns
returns c = (
  λ h. part_from_cells c.args.hand.now (alive c.args.left.now) c.args.place c.loop-cell.cell-index (omega (arith, ap length c.cells-cell-items.ensures.order)) c.loop-cell.invariant,
  λ part. refl,
)
