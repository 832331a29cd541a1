use Rattle.std.proofs.Common.{refl}
use Rattle.book_lines.proofs.setting.are_in_order.Goals as goal
use mir.Syntax.{w64}
use Rattle.std.proofs.lemmas.Int.{to_z-of_z}
use Rattle.book_lines.proofs.Drawing.{small_fits}
use Rattle.book_lines.proofs.Uniqueness.{order_tested}

pub returns-in-None-number : goal.returns-in-None-number
returns-in-None-number c = ((λ u low high p q. absurd (c.in-None-number.ensures.number high q)), (λ _. refl))

pub returns-in-None : goal.returns-in-None
returns-in-None c = ((λ u low high p q. absurd (c.in-None.ensures.number low p)), (λ _. refl))

pub returns-in-Some-number : goal.returns-in-Some-number
returns-in-Some-number c =
    rw (to_z-of_z w64 c.in-Some.low (small_fits _ c.in-Some.ensures.small), to_z-of_z w64 c.in-Some-number.high (small_fits _ c.in-Some-number.ensures.small))
    (order_tested c.args.low.now c.args.high.now c.in-Some.low c.in-Some-number.high c.in-Some.ensures.number c.in-Some-number.ensures.number)
