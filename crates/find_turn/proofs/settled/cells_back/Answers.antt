use Rattle.std.proofs.Common.{◌≡◌, Vec, Global, sym, ap, subst, ◌∙◌, w64, to_z, of_z}
use Rattle.std.proofs.lemmas.Int.{to_z-of_z}
use Rattle.life_cells.specs.Cells.{IsRising, alive}
use Rattle.life_cells.specs.declared.cell.Cell.{Cell}
use Rattle.life_plane.specs.Plane.{same_plane}
use Rattle.find_turn.specs.Settled.{is_back, back}
use Rattle.find_turn.proofs.Kept.{in_range_at, kept_more, left_out, kept_all, kept_rises, set_kept}
use Rattle.find_turn.proofs.settled.cells_back.Goals as goal
use Rattle.find_turn.proofs.settled.cells_back.Goals.{then-lies_back+in_ok-push, else-lies_back}

pub lies_back-requires-clause-cell : goal.lies_back-requires-clause-cell
lies_back-requires-clause-cell c = in_range_at _ c.args.cells.now _ c.cells-cell-items.ensures.order c.loop-cell.cell-index _ c.loop-cell-test.true c.requires.range

pub loop-cell-preserved : goal.loop-cell-preserved
loop-cell-preserved c =
    let cs = c.cells-cell-items.result.now in
    let p = is_back (to_z w64 (of_z w64 c.args.limit)) in
    elim c.if-lies_back.branch [
      | then-lies_back+in_ok-push w ↦ ap (λ (v : Vec Cell Global). v.items) w.kept-is ∙ kept_more p cs _ _ c.loop-cell.cell-index _ c.loop-cell-test.true c.loop-cell.invariant (sym c.lies_back.ensures ∙ w.if-lies_back.true) w.in_ok-push.ensures.items
      | else-lies_back w ↦ ap (λ (v : Vec Cell Global). v.items) w.kept-is ∙ left_out p cs _ c.loop-cell.cell-index _ c.loop-cell-test.true c.loop-cell.invariant (sym c.lies_back.ensures ∙ w.if-lies_back.false)
    ]

pub from_rising-requires : goal.from_rising-requires
from_rising-requires c =
    let cs = c.cells-cell-items.result.now in
    let p = is_back (to_z w64 (of_z w64 c.args.limit)) in
    subst IsRising (sym (kept_all p cs _ c.loop-cell.cell-index c.loop-cell-test.false c.loop-cell.invariant)) (kept_rises p cs c.cells-cell-items.ensures.rising)

pub returns : goal.returns
returns c =
    let cs = c.cells-cell-items.result.now in
    let p = is_back (to_z w64 (of_z w64 c.args.limit)) in
    subst (λ z. alive c.from_rising.result ≡ back z (alive c.args.cells.now)) (to_z-of_z w64 c.args.limit c.ranges.limit)
    (same_plane _ _ (set_kept p c.args.cells.now _ cs _ c.cells-cell-items.ensures.order (kept_all p cs _ c.loop-cell.cell-index c.loop-cell-test.false c.loop-cell.invariant) c.from_rising.ensures))
