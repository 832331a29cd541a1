use Rattle.std.proofs.Common.{◌∙◌, length, sym, ap, arith}
use Rattle.life_plane.specs.Plane.{Plane}
use Rattle.life_cells.specs.declared.cell.Cell.{Cell}
use Rattle.life_cells.specs.Cells.{in_order, alive}
use Rattle.life_cells.specs.Laws.{alive-in_order, rising-in_order}
use Rattle.recipe_turn.specs.Bounds.{Keeps}
use Rattle.life_cells.specs.PlaceLaws.{live_at, at_place, each_more, each_live}
use Rattle.std.proofs.lemmas.Bool.{true≢false}
use Rattle.recipe_turn.proofs.Ranges.{live_within}
use Rattle.life_cells.specs.FirstLaws.{first_place}
use Rattle.recipe_turn.proofs.bounds.first_breaking.Goals as goal

pub keeps-requires-clause-cell : goal.keeps-requires-clause-cell
keeps-requires-clause-cell c =
    live_within (alive c.args.cells.now) c.requires.range _ _ (live_at c.args.cells.now _ c.cells-cell-items.ensures.order c.loop-cell.cell-index _ c.loop-cell-test.true)

pub returns-then-not-keeps : goal.returns-then-not-keeps
returns-then-not-keeps c =
    let s = c.args.cells.now in
    record {
      is = (live_at s _ c.cells-cell-items.ensures.order c.loop-cell.cell-index _ c.loop-cell-test.true, λ p. true≢false (sym (c.keeps.ensures.1 p) ∙ c.if-not-keeps.true));
      none_before = λ x y p. first_place (in_order s) (rising-in_order s) (λ x y. Keeps c.args.settings.now c.args.bound x y → ⊥) c.loop-cell.cell-index _
          (at_place s _ c.cells-cell-items.ensures.order c.loop-cell.cell-index _ c.loop-cell-test.true)
          (λ k d lt at out. out (c.loop-cell.invariant k d lt at)) x y (sym (ap (λ (q : Plane). q x y) (alive-in_order s)) ∙ p.0) p.1;
    }

pub loop-cell-preserved : goal.loop-cell-preserved
loop-cell-preserved c =
    each_more _ (λ (d : Cell). Keeps c.args.settings.now c.args.bound d.x d.y) c.loop-cell.cell-index _
    (at_place c.args.cells.now _ c.cells-cell-items.ensures.order c.loop-cell.cell-index _ c.loop-cell-test.true) c.loop-cell.invariant (c.keeps.ensures.0 c.if-not-keeps.false)

pub returns : goal.returns
returns c = each_live c.args.cells.now (Keeps c.args.settings.now c.args.bound) c.loop-cell.cell-index (omega (arith, ap length c.cells-cell-items.ensures.order)) c.loop-cell.invariant
