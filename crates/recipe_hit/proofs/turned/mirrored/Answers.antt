use Rattle.std.proofs.Common.{◌∙◌, ◌^◌, [], map, pos, ap}
use Rattle.std.proofs.lemmas.List.{take_all}
use Rattle.std.proofs.lemmas.Result.{IfOk-weaker}
use Rattle.life_plane.specs.Plane.{same_plane}
use Rattle.life_cells.specs.Cells.{cell, alive}
use Rattle.life_cells.specs.MovedLaws.{push_mapped}
use Rattle.life_cells.specs.PlaceLaws.{live_at}
use Rattle.recipe_hit.specs.Endless.{mirrored_cell}
use Rattle.recipe_hit.specs.LiveCellLaws.{live_in_range}
use Rattle.recipe_hit.proofs.Sides.{alive_turned, mirrored_back}
use Rattle.recipe_hit.proofs.turned.mirrored.Goals as goal

pub mirrored_cell-requires : goal.mirrored_cell-requires
mirrored_cell-requires c =
    live_in_range (2 ^ 58) (alive c.args.cells.now) _ c.requires (live_at c.args.cells.now _ c.cells-cell-items.ensures.order c.loop-cell.cell-index _ c.loop-cell-test.true)

pub loop-cell-preserved : goal.loop-cell-preserved
loop-cell-preserved c = push_mapped mirrored_cell [] _ _ _ _ _ (cell (pos 0) (pos 0)) c.loop-cell-test.true c.in_ok-push.ensures.items c.loop-cell.invariant c.mirrored_cell.ensures

pub returns : goal.returns
returns c =
    IfOk-weaker c.from_cells.result _ _
    (λ s is. same_plane _ _ (alive_turned mirrored_cell mirrored_back c.args.cells.now s _ _ c.cells-cell-items.ensures.order
    (c.deref.ensures.value ∙ c.loop-cell.invariant ∙ ap (map mirrored_cell) (take_all c.loop-cell.cell-index _ c.loop-cell-test.false)) is))
    c.from_cells.ensures
