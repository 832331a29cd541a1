use Rattle.std.proofs.Common.{◌∙◌, [], map, pos, ap, refl}
use Rattle.std.proofs.lemmas.List.{take_all}
use Rattle.std.proofs.lemmas.Result.{IfOk-weaker}
use Rattle.life_plane.specs.Plane.{same_plane}
use Rattle.life_cells.specs.Cells.{cell}
use Rattle.life_cells.specs.MovedLaws.{push_mapped}
use Rattle.recipe_hit.specs.Endless.{transposed_cell}
use Rattle.recipe_hit.proofs.Sides.{alive_turned}
use Rattle.recipe_hit.proofs.turned.transposed.Goals as goal

pub loop-cell-preserved : goal.loop-cell-preserved
loop-cell-preserved c = push_mapped transposed_cell [] _ _ _ _ _ (cell (pos 0) (pos 0)) c.loop-cell-test.true c.in_ok-push.ensures.items c.loop-cell.invariant c.transposed_cell.ensures

pub returns : goal.returns
returns c =
    IfOk-weaker c.from_cells.result _ _
    (λ s is. same_plane _ _ (alive_turned transposed_cell (λ c. refl) c.args.cells.now s _ _ c.cells-cell-items.ensures.order
    (c.deref.ensures.value ∙ c.loop-cell.invariant ∙ ap (map transposed_cell) (take_all c.loop-cell.cell-index _ c.loop-cell-test.false)) is))
    c.from_cells.ensures
