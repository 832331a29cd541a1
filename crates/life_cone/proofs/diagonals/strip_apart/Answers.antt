use Rattle.std.proofs.Common.{◌↔◌, IsTrue, false, refl, w64, to_z, of_z}
use Rattle.std.proofs.lemmas.Int.{to_z-of_z}
use Rattle.life_plane.specs.Strips.{Each}
use Rattle.life_cells.specs.Cells.{alive}
use Rattle.life_cone.specs.Sides.{IsBesideStrip}
use Rattle.life_cone.proofs.EachCell.{each_more, each_of_set, not_each}
use Rattle.life_cone.proofs.Sides.{strip_ends, beside_apart}
use Rattle.life_cone.proofs.diagonals.strip_apart.Goals as goal
use Rattle.life_cone.specs.CellLaws.{place_in_range}

pub is_beside_strip-requires-clause-cell : goal.is_beside_strip-requires-clause-cell
is_beside_strip-requires-clause-cell c = place_in_range _ _ c.args.cells.now c.loop-cell.cell-index _ c.requires.cells c.cells-cell-items.ensures.order c.loop-cell-test.true

pub returns-then-not-is_beside_strip-clause-exact : goal.returns-then-not-is_beside_strip-clause-exact
returns-then-not-is_beside_strip-clause-exact c =
    strip_ends (λ low high. IsTrue false ↔ Each (IsBesideStrip low high) (alive c.args.cells.now)) c.args.low c.args.high _ _ (to_z-of_z w64 c.args.low c.ranges.low) (to_z-of_z w64 c.args.high c.ranges.high)
    (not_each (IsBesideStrip (to_z w64 (of_z w64 c.args.low)) (to_z w64 (of_z w64 c.args.high))) _ c.args.cells.now c.loop-cell.cell-index _ _ c.cells-cell-items.ensures.order c.loop-cell-test.true c.is_beside_strip.ensures c.if-not-is_beside_strip.true)

pub loop-cell-preserved : goal.loop-cell-preserved
loop-cell-preserved c =
    each_more (IsBesideStrip (to_z w64 (of_z w64 c.args.low)) (to_z w64 (of_z w64 c.args.high))) _ c.loop-cell.cell-index _ c.loop-cell-test.true (c.is_beside_strip.ensures.0 c.if-not-is_beside_strip.false) c.loop-cell.invariant

pub returns-clause-exact : goal.returns-clause-exact
returns-clause-exact c = (
  λ _. strip_ends (λ low high. Each (IsBesideStrip low high) (alive c.args.cells.now)) c.args.low c.args.high _ _ (to_z-of_z w64 c.args.low c.ranges.low) (to_z-of_z w64 c.args.high c.ranges.high)
      (each_of_set (IsBesideStrip (to_z w64 (of_z w64 c.args.low)) (to_z w64 (of_z w64 c.args.high))) _ c.args.cells.now c.loop-cell.cell-index c.cells-cell-items.ensures.order c.loop-cell-test.false c.loop-cell.invariant),
  λ _. refl,
)

pub returns-clause-apart : goal.returns-clause-apart
returns-clause-apart c h t ht =
    beside_apart c.args.low c.args.high (alive c.args.cells.now) t
    (strip_ends (λ low high. Each (IsBesideStrip low high) (alive c.args.cells.now)) c.args.low c.args.high _ _ (to_z-of_z w64 c.args.low c.ranges.low) (to_z-of_z w64 c.args.high c.ranges.high)
    (each_of_set (IsBesideStrip (to_z w64 (of_z w64 c.args.low)) (to_z w64 (of_z w64 c.args.high))) _ c.args.cells.now c.loop-cell.cell-index c.cells-cell-items.ensures.order c.loop-cell-test.false c.loop-cell.invariant))
    ht
