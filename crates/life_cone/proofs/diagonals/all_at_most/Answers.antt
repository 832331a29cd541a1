use Rattle.std.proofs.Common.{◌↔◌, IsTrue, false, refl, subst, w64, to_z, of_z}
use Rattle.std.proofs.lemmas.Int.{to_z-of_z}
use Rattle.life_plane.specs.Strips.{Each, UAtMost}
use Rattle.life_cells.specs.Cells.{alive}
use Rattle.life_cone.proofs.EachCell.{each_more, each_of_set, not_each}
use Rattle.life_cone.proofs.diagonals.all_at_most.Goals as goal
use Rattle.life_cone.specs.CellLaws.{place_in_range}

pub is_at_most-requires : goal.is_at_most-requires
is_at_most-requires c = place_in_range _ _ c.args.cells.now c.loop-cell.cell-index _ c.requires c.cells-cell-items.ensures.order c.loop-cell-test.true

pub returns-then-not-is_at_most : goal.returns-then-not-is_at_most
returns-then-not-is_at_most c =
    subst (λ m. IsTrue false ↔ Each (UAtMost m) (alive c.args.cells.now)) (to_z-of_z w64 c.args.limit c.ranges.limit)
    (not_each (UAtMost (to_z w64 (of_z w64 c.args.limit))) _ c.args.cells.now c.loop-cell.cell-index _ _ c.cells-cell-items.ensures.order c.loop-cell-test.true c.is_at_most.ensures c.if-not-is_at_most.true)

pub loop-cell-preserved : goal.loop-cell-preserved
loop-cell-preserved c = each_more (UAtMost (to_z w64 (of_z w64 c.args.limit))) _ c.loop-cell.cell-index _ c.loop-cell-test.true (c.is_at_most.ensures.0 c.if-not-is_at_most.false) c.loop-cell.invariant

pub returns : goal.returns
returns c = (
  λ _. subst (λ m. Each (UAtMost m) (alive c.args.cells.now)) (to_z-of_z w64 c.args.limit c.ranges.limit)
      (each_of_set (UAtMost (to_z w64 (of_z w64 c.args.limit))) _ c.args.cells.now c.loop-cell.cell-index c.cells-cell-items.ensures.order c.loop-cell-test.false c.loop-cell.invariant),
  λ _. refl,
)
