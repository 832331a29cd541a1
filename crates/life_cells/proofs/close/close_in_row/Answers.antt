use Rattle.std.proofs.Common.{rules, w64}
use Rattle.std.specs.Prelude.{FitsSigned, ◌+ℤ◌}
use Rattle.life_cells.proofs.Casts.{wide_sum, wide_less_two, wide_and_three}
use Rattle.life_cells.proofs.Closeness.{IsRowPart, row_part, row_rises, row_is_close}
use Rattle.life_cells.proofs.close.close_in_row.Goals as goal

part : (c : goal.After-first_from-to) → IsRowPart c.args.cells.now c.args.it.x (c.args.it.y +ℤ c.args.dy) c.first_from-from.result c.first_from-to.result
part c =
    let it = c.args.it in
    let fits_x : FitsSigned w64 it.x = search rules in
    let fits_y : FitsSigned w64 it.y = search rules in
    row_part _ _ _ _ _ _ _ _ (wide_less_two it.x c.from-x.result fits_x c.from-x.ensures) (wide_and_three it.x c.from-x.result fits_x c.from-x.ensures)
    (wide_sum it.y c.args.dy c.from.result c.from-2.result fits_y c.ranges.dy c.from.ensures c.from-2.ensures) c.first_from-from.ensures c.first_from-to.ensures

pub slice_bounds-result-count : goal.slice_bounds-result-count
slice_bounds-result-count c = row_rises _ _ _ _ _ (part c)

pub slice_bounds-result-start : goal.slice_bounds-result-start
slice_bounds-result-start c = row_rises _ _ _ _ _ (part c)

pub returns : goal.returns
returns c =
    let it = c.args.it in
    let fits_x : FitsSigned w64 it.x = search rules in
    let fits_y : FitsSigned w64 it.y = search rules in
    row_is_close _ it.x (it.y +ℤ c.args.dy) _ _ (row_part _ it.x (it.y +ℤ c.args.dy) _ _ _ _ _ (wide_less_two it.x c.from-x.result fits_x c.from-x.ensures) (wide_and_three it.x c.from-x.result fits_x c.from-x.ensures)
    (wide_sum it.y c.args.dy c.from.result c.from-2.result fits_y c.ranges.dy c.from.ensures c.from-2.ensures) c.first_from-from.ensures c.first_from-to.ensures)
