use Rattle.std.proofs.Common.{◌≡◌, ◌∙◌, pos, get_or, sym, subst, w64, to_z, of_z}
use Rattle.std.proofs.lemmas.Int.{to_z-of_z}
use Rattle.life_plane.specs.Plane.{nothing}
use Rattle.life_cells.specs.Cells.{cell, alive}
use Rattle.life_gliders.specs.Beyond.{beyond, IsFirstLive}
use Rattle.life_gliders.proofs.EachCell.{live_in_range}
use Rattle.life_cells.specs.PlaceLaws.{live_at}
use Rattle.life_gliders.proofs.PastWall.{first_past, none_past, none_more}
use Rattle.life_gliders.proofs.beyond.first_beyond.Goals as goal

pub is_beyond-requires-clause-cell : goal.is_beyond-requires-clause-cell
is_beyond-requires-clause-cell c = live_in_range _ _ _ c.requires.cells (live_at c.args.cells.now _ c.cells-cell-items.ensures.order c.loop-cell.cell-index _ c.loop-cell-test.true)

pub returns-then-is_beyond-clause-some : goal.returns-then-is_beyond-clause-some
returns-then-is_beyond-clause-some c =
    subst (λ w. IsFirstLive (get_or c.cells-cell-items.result.now c.loop-cell.cell-index (cell (pos 0) (pos 0))) (beyond w (alive c.args.cells.now))) (to_z-of_z w64 c.args.wall c.ranges.wall)
    (first_past (to_z w64 (of_z w64 c.args.wall)) _ c.args.cells.now c.loop-cell.cell-index _ c.cells-cell-items.ensures.order c.cells-cell-items.ensures.rising c.loop-cell-test.true c.loop-cell.invariant (sym c.is_beyond.ensures ∙ c.if-is_beyond.true))

pub returns-then-is_beyond-clause-range : goal.returns-then-is_beyond-clause-range
returns-then-is_beyond-clause-range c = live_in_range _ _ _ c.requires.cells (live_at c.args.cells.now _ c.cells-cell-items.ensures.order c.loop-cell.cell-index _ c.loop-cell-test.true)

pub loop-cell-preserved : goal.loop-cell-preserved
loop-cell-preserved c = none_more (to_z w64 (of_z w64 c.args.wall)) _ c.loop-cell.cell-index _ _ c.loop-cell-test.true c.loop-cell.invariant c.is_beyond.ensures c.if-is_beyond.false

pub returns-clause-none : goal.returns-clause-none
returns-clause-none c =
    subst (λ w. beyond w (alive c.args.cells.now) ≡ nothing) (to_z-of_z w64 c.args.wall c.ranges.wall)
    (none_past (to_z w64 (of_z w64 c.args.wall)) _ c.args.cells.now c.loop-cell.cell-index c.cells-cell-items.ensures.order c.loop-cell-test.false c.loop-cell.invariant)
