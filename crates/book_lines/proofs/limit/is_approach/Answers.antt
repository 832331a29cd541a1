use Rattle.std.proofs.Common.{sym, ◌∙◌}
use Rattle.book_lines.proofs.limit.is_approach.Goals as goal
use mir.Syntax.{w64}
use Rattle.std.proofs.lemmas.Int.{to_z-of_z}
use Rattle.std.proofs.lemmas.Bool.{false≢true}
use Rattle.book_lines.proofs.Quarters.{approach_is, approach_tested}

pub returns-then-is_from : goal.returns-then-is_from
returns-then-is_from c = rw (to_z-of_z w64 c.args.number c.ranges.number)
    (approach_is c.args.number (rw (to_z-of_z w64 c.args.number c.ranges.number) at (c.is_from.ensures.0 c.if-is_from.true)), approach_tested c.args.number)

pub returns-else-is_from : goal.returns-else-is_from
returns-else-is_from c = ((λ h. absurd (false≢true (sym c.if-is_from.false ∙ h))), (λ h. c.is_from.ensures.1 (rw (to_z-of_z w64 c.args.number c.ranges.number) h.range)))
