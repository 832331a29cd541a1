use Rattle.std.proofs.Common.{inl, inr, ℤ, refl, subst, sym, ◌∙◌}
use Rattle.book_read.proofs.outside.outside.Goals as goal
use mir.Syntax.{w64}
use Rattle.std.proofs.lemmas.Int.{to_z-of_z}
use Rattle.std.proofs.lemmas.Bool.{false≢true}
use Rattle.book_lines.specs.Limits.{IsWithin}

pub returns-then-holds : goal.returns-then-holds
returns-then-holds c = inl (rw (to_z-of_z w64 c.args.number c.ranges.number) at (c.holds.ensures.0 c.if-holds.true), refl)

pub returns-else-holds : goal.returns-else-holds
returns-else-holds c = rw (to_z-of_z w64 c.args.number c.ranges.number)
    (inr ((λ w. let same = to_z-of_z w64 c.args.number c.ranges.number in let yes = c.holds.ensures.1 (subst (λ (z : ℤ). IsWithin c.args.limit z) (sym same) w) in false≢true (sym c.if-holds.false ∙ yes)), refl))
