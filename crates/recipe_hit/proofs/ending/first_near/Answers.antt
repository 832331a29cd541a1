use Rattle.std.proofs.Common.{◌∙◌, length, sym, ap, arith}
use Rattle.life_plane.specs.Plane.{Plane}
use Rattle.life_cells.specs.Cells.{alive, in_order}
use Rattle.life_cells.specs.Close.{Close}
use Rattle.life_cells.specs.Laws.{alive-in_order, rising-in_order}
use Rattle.life_cells.specs.FirstLaws.{first_place}
use Rattle.life_cells.specs.PlaceLaws.{live_at, at_place, each_more}
use Rattle.recipe_hit.proofs.Ends.{none_near}
use Rattle.life_plane.specs.LookUpLaws.{not_if_false}
use Rattle.recipe_hit.proofs.ending.first_near.Goals as goal

pub returns-then-has_close : goal.returns-then-has_close
returns-then-has_close c =
    let s = c.args.product.now in
    record {
      is = (live_at s _ c.cells-cell-items.ensures.order c.loop-cell.cell-index _ c.loop-cell-test.true, c.has_close.ensures.0 c.if-has_close.true);
      none_before = λ x y p. first_place (in_order s) (rising-in_order s) (Close (alive c.args.hand.now)) c.loop-cell.cell-index _
          (at_place s _ c.cells-cell-items.ensures.order c.loop-cell.cell-index _ c.loop-cell-test.true)
          c.loop-cell.invariant x y (sym (ap (λ (q : Plane). q x y) (alive-in_order s)) ∙ p.0) p.1;
    }

pub loop-cell-preserved : goal.loop-cell-preserved
loop-cell-preserved c =
    each_more _ (λ d. Close (alive c.args.hand.now) d.x d.y → ⊥) c.loop-cell.cell-index _
    (at_place c.args.product.now _ c.cells-cell-items.ensures.order c.loop-cell.cell-index _ c.loop-cell-test.true) c.loop-cell.invariant (not_if_false _ _ c.if-has_close.false c.has_close.ensures)

pub returns : goal.returns
returns c = none_near c.args.product.now (alive c.args.hand.now) c.loop-cell.cell-index (omega (arith, ap length c.cells-cell-items.ensures.order)) c.loop-cell.invariant
