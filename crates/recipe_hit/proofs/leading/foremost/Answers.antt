use Rattle.std.proofs.Common.{◌≡◌, ◌^◌, true, sym, subst}
use Rattle.life_cells.specs.declared.cell.Cell.{Cell}
use Rattle.life_cells.specs.Cells.{alive}
use Rattle.life_cells.specs.PlaceLaws.{live_at}
use Rattle.recipe_hit.specs.LiveCellLaws.{live_there, live_in_range}
use Rattle.recipe_hit.proofs.leading.foremost.Goals as goal
use Rattle.recipe_hit.proofs.leading.foremost.Goals.{then-diagonal_of, else-diagonal_of}

pub loop-cell-init : goal.loop-cell-init
loop-cell-init c = live_there c.args.cells.now 0 c.in-Some.front (sym c.in-Some.ensures)

pub diagonal_of-requires : goal.diagonal_of-requires
diagonal_of-requires c = live_in_range (2 ^ 58) (alive c.args.cells.now) _ c.requires c.loop-cell.invariant

pub diagonal_of-requires-in-loop-cell : goal.diagonal_of-requires-in-loop-cell
diagonal_of-requires-in-loop-cell c = live_in_range (2 ^ 58) (alive c.args.cells.now) _ c.requires (live_at c.args.cells.now _ c.cells-cell-items.ensures.order c.loop-cell.cell-index _ c.loop-cell-test.true)

pub loop-cell-preserved : goal.loop-cell-preserved
loop-cell-preserved c = elim c.if-diagonal_of.branch [
  | then-diagonal_of w ↦ subst (λ (d : Cell). alive c.args.cells.now d.x d.y ≡ true) (sym w.front-is)
      (live_at c.args.cells.now _ c.cells-cell-items.ensures.order c.loop-cell.cell-index _ c.loop-cell-test.true)
  | else-diagonal_of w ↦ subst (λ (d : Cell). alive c.args.cells.now d.x d.y ≡ true) (sym w.front-is) c.loop-cell.invariant
]
