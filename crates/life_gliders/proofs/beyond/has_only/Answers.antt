use Rattle.std.proofs.Common.{◌↔◌, IsTrue, false, refl, subst, w64, to_z, of_z}
use Rattle.std.proofs.lemmas.Int.{to_z-of_z}
use Rattle.life_cells.specs.Cells.{alive}
use Rattle.life_cells.specs.Listed.{listed}
use Rattle.life_gliders.specs.Beyond.{beyond, IsPartOf}
use Rattle.life_gliders.proofs.EachCell.{live_in_range}
use Rattle.life_cells.specs.PlaceLaws.{live_at}
use Rattle.life_gliders.proofs.PastWall.{only_listed, listed_more, not_past_more, not_only}
use Rattle.life_gliders.proofs.beyond.has_only.Goals as goal
use Rattle.life_gliders.proofs.beyond.has_only.Goals.{else-is_beyond-via-then-is_beyond+else-not-has_cell, else-is_beyond-via-else-is_beyond}

pub is_beyond-requires-clause-cell : goal.is_beyond-requires-clause-cell
is_beyond-requires-clause-cell c = live_in_range _ _ _ c.requires.cells (live_at c.args.cells.now _ c.cells-cell-items.ensures.order c.loop-cell.cell-index _ c.loop-cell-test.true)

pub returns-then-not-has_cell : goal.returns-then-not-has_cell
returns-then-not-has_cell c =
    subst (λ w. IsTrue false ↔ IsPartOf (beyond w (alive c.args.cells.now)) (listed c.args.list.now)) (to_z-of_z w64 c.args.wall c.ranges.wall)
    (not_only (to_z w64 (of_z w64 c.args.wall)) c.args.list.now _ c.args.cells.now c.loop-cell.cell-index _ _ _ c.cells-cell-items.ensures.order c.loop-cell-test.true c.is_beyond.ensures c.if-is_beyond.true c.has_cell.ensures c.if-not-has_cell.true)

pub loop-cell-preserved : goal.loop-cell-preserved
loop-cell-preserved c = elim c.else-is_beyond.branch [
  | else-is_beyond-via-then-is_beyond+else-not-has_cell w ↦ listed_more (to_z w64 (of_z w64 c.args.wall)) c.args.list.now _ c.loop-cell.cell-index _ _ c.loop-cell-test.true c.loop-cell.invariant w.has_cell.ensures w.if-not-has_cell.false
  | else-is_beyond-via-else-is_beyond w ↦ not_past_more (to_z w64 (of_z w64 c.args.wall)) c.args.list.now _ c.loop-cell.cell-index _ _ c.loop-cell-test.true c.loop-cell.invariant c.is_beyond.ensures w.if-is_beyond.false
]

pub returns : goal.returns
returns c = (
  λ _. subst (λ w. IsPartOf (beyond w (alive c.args.cells.now)) (listed c.args.list.now)) (to_z-of_z w64 c.args.wall c.ranges.wall)
      (only_listed (to_z w64 (of_z w64 c.args.wall)) c.args.list.now _ c.args.cells.now c.loop-cell.cell-index c.cells-cell-items.ensures.order c.loop-cell-test.false c.loop-cell.invariant),
  λ _. refl,
)
