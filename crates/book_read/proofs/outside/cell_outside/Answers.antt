use Rattle.std.proofs.Common.{rules, [], ◌∷◌}
use Rattle.book_read.proofs.outside.cell_outside.Goals as goal
use mir.Syntax.{w64}
use Rattle.std.proofs.Common.{FitsSigned}
use Rattle.std.proofs.lemmas.Int.{to_z-of_z}
use Rattle.book_read.specs.Limited.{held}
use Rattle.book_lines.specs.declared.limit.Limit.TheVariants as limit
use Rattle.book_read.proofs.FirstOutside.{first_append}

pub returns : goal.returns
returns c =
    let fits_x : FitsSigned w64 c.args.cell.x = search rules in
    let fits_y : FitsSigned w64 c.args.cell.y = search rules in
    rw (c.or.ensures) (first_append (held limit.Coordinate c.args.cell.x ∷ []) (held limit.Coordinate c.args.cell.y ∷ []) c.outside-x.result c.outside-y.result
    (rw (to_z-of_z w64 c.args.cell.x fits_x) at c.outside-x.ensures) (rw (to_z-of_z w64 c.args.cell.y fits_y) at c.outside-y.ensures))
