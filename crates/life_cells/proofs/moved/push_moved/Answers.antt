use Rattle.std.proofs.Common.{rules, ◌∙◌, get_or, w64}
use Rattle.std.specs.Prelude.{pos, FitsSigned}
use Rattle.life_cells.specs.Cells.{cell}
use Rattle.life_cells.proofs.Casts.{sum_is}
use Rattle.life_cells.specs.MovedLaws.{push_mapped}
use Rattle.life_cells.proofs.moved.push_moved.Goals as goal

pub loop-cell-preserved : goal.loop-cell-preserved
loop-cell-preserved c =
    let first = cell (pos 0) (pos 0) in
    let it = get_or c.args.cells.now c.loop-cell.cell-index first in
    let fits = c.requires c.loop-cell.cell-index first c.loop-cell-test.true in
    let x_fits : FitsSigned w64 it.x = search rules in
    let y_fits : FitsSigned w64 it.y = search rules in
    let xs = sum_is it.x c.args.dx x_fits (search rules) fits.x in
    let ys = sum_is it.y c.args.dy y_fits (search rules) fits.y in
    push_mapped _ _ _ _ _ _ _ first c.loop-cell-test.true c.in_ok-push.ensures.items c.loop-cell.invariant (c.new.ensures ∙ (λ i. record { y = ys i; x = xs i }))
