use Rattle.std.proofs.Common.{rules, ℤ, List, subst, map}
use Rattle.book_read.proofs.outside.turn_outside.Goals as goal
use mir.Syntax.{w64}
use Rattle.std.proofs.Common.{FitsSigned}
use Rattle.std.proofs.lemmas.Int.{to_z-of_z}
use Rattle.book_read.specs.Limited.{held, end_numbers, IsFirstOutside}
use Rattle.book_lines.specs.declared.limit.Limit.TheVariants as limit
use Rattle.book_read.proofs.FirstOutside.{first_append}

pub returns : goal.returns
returns c =
    let t = c.args.turn.now in
    let fits : FitsSigned w64 t.n = search rules in
    rw (c.or.ensures) (first_append (end_numbers t.end t.n) (map (held limit.Delay) t.delays) c.end_outside-end.result c.numbers_outside-delays.result
    (rw (to_z-of_z w64 t.n fits) at c.end_outside-end.ensures) (subst (λ (ds : List ℤ). IsFirstOutside (map (held limit.Delay) ds) c.numbers_outside-delays.result) c.items.ensures c.numbers_outside-delays.ensures))
