use Rattle.std.proofs.Common.{sym, ◌∙◌}
use Rattle.recipe_book.specs.Checked.{said_of}
use Rattle.recipe_find.specs.Adding.{known}
use Rattle.recipe_find.proofs.Setting.{has_none, has_some}
use Rattle.recipe_find.proofs.Growth.{known_adds_nothing}
use Rattle.recipe_find.proofs.extending.try_candidate.Goals as goal

pub returns-then-contains-clause-grow : goal.returns-then-contains-clause-grow
returns-then-contains-clause-grow g c =
    known_adds_nothing (said_of c.args.book.now) c.args.number c.args.candidate.now _ _
    (has_some (known (said_of c.args.book.now)) c.args.candidate.now (sym (c.requires.taken c.args.candidate.now) ∙ sym c.contains.ensures ∙ c.if-contains.true))

pub add_found-requires-clause-unknown : goal.add_found-requires-clause-unknown
add_found-requires-clause-unknown g c =
    has_none (known (said_of c.args.book.now)) c.args.candidate.now (sym (c.requires.taken c.args.candidate.now) ∙ sym c.contains.ensures ∙ c.if-contains.false)
