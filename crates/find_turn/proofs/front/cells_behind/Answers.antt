use Rattle.std.proofs.Common.{Vec, Global, sym, ap, subst, ◌∙◌}
use Rattle.life_cells.specs.Cells.{IsRising}
use Rattle.life_cells.specs.declared.cell.Cell.{Cell}
use Rattle.life_plane.specs.Plane.{same_plane}
use Rattle.find_turn.specs.Behind.{is_behind}
use Rattle.find_turn.proofs.Kept.{in_range_at, kept_more, left_out, kept_all, kept_rises, set_kept}
use Rattle.find_turn.proofs.front.cells_behind.Goals as goal
use Rattle.find_turn.proofs.front.cells_behind.Goals.{then-lies_behind+in_ok-push, else-lies_behind}

pub lies_behind-requires-clause-cell : goal.lies_behind-requires-clause-cell
lies_behind-requires-clause-cell c = in_range_at _ c.args.cells.now _ c.cells-cell-items.ensures.order c.loop-cell.cell-index _ c.loop-cell-test.true c.requires.range

pub loop-cell-preserved : goal.loop-cell-preserved
loop-cell-preserved c =
    let cs = c.cells-cell-items.result.now in
    let p = is_behind c.args.settings.now.wall in
    elim c.if-lies_behind.branch [
      | then-lies_behind+in_ok-push w ↦ ap (λ (v : Vec Cell Global). v.items) w.kept-is ∙ kept_more p cs _ _ c.loop-cell.cell-index _ c.loop-cell-test.true c.loop-cell.invariant (sym c.lies_behind.ensures ∙ w.if-lies_behind.true) w.in_ok-push.ensures.items
      | else-lies_behind w ↦ ap (λ (v : Vec Cell Global). v.items) w.kept-is ∙ left_out p cs _ c.loop-cell.cell-index _ c.loop-cell-test.true c.loop-cell.invariant (sym c.lies_behind.ensures ∙ w.if-lies_behind.false)
    ]

pub from_rising-requires : goal.from_rising-requires
from_rising-requires c =
    let cs = c.cells-cell-items.result.now in
    let p = is_behind c.args.settings.now.wall in
    subst IsRising (sym (kept_all p cs _ c.loop-cell.cell-index c.loop-cell-test.false c.loop-cell.invariant)) (kept_rises p cs c.cells-cell-items.ensures.rising)

pub returns : goal.returns
returns c =
    let cs = c.cells-cell-items.result.now in
    let p = is_behind c.args.settings.now.wall in
    same_plane _ _ (set_kept p c.args.cells.now _ cs _ c.cells-cell-items.ensures.order (kept_all p cs _ c.loop-cell.cell-index c.loop-cell-test.false c.loop-cell.invariant) c.from_rising.ensures)
