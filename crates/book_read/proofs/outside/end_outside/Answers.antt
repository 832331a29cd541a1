use Rattle.std.proofs.Common.{rules, [], ◌∷◌}
use Rattle.book_read.proofs.outside.end_outside.Goals as goal
use mir.Syntax.{w64}
use Rattle.std.proofs.Common.{FitsSigned}
use Rattle.std.proofs.lemmas.Int.{to_z-of_z}
use Rattle.book_read.specs.Limited.{held}
use Rattle.book_lines.specs.declared.limit.Limit.TheVariants as limit
use Rattle.book_read.proofs.FirstOutside.{first_append}

pub returns-in-Emit : goal.returns-in-Emit
returns-in-Emit c =
    let n = c.args.n in
    let shift = c.in-Emit.shift in
    let lane = c.in-Emit.lane in
    let j = c.in-Emit.j in
    let fits_shift : FitsSigned w64 shift = search rules in
    let fits_lane : FitsSigned w64 lane = search rules in
    let fits_j : FitsSigned w64 j = search rules in
    let time = rw (to_z-of_z w64 n c.ranges.n) at c.outside-time.ensures in
    rw (c.in-Emit.is, c.or-in-Emit.ensures, c.or-before.ensures, c.or-glider.ensures)
    (first_append (held limit.Coordinate shift ∷ (held limit.Time n ∷ [])) (held limit.Coordinate lane ∷ (held limit.Index j ∷ [])) _ _
    (first_append (held limit.Coordinate shift ∷ []) (held limit.Time n ∷ []) c.outside-in-Emit.result c.outside-time.result (rw (to_z-of_z w64 shift fits_shift) at c.outside-in-Emit.ensures) time)
    (first_append (held limit.Coordinate lane ∷ []) (held limit.Index j ∷ []) c.outside-in-Emit-2.result c.outside-in-Emit-3.result (rw (to_z-of_z w64 lane fits_lane) at c.outside-in-Emit-2.ensures) (rw (to_z-of_z w64 j fits_j) at c.outside-in-Emit-3.ensures)))
