use Rattle.std.proofs.Common.{sym, ◌∙◌}
use Rattle.std.proofs.lemmas.Bool.{false≢true}
use Rattle.recipe_book.specs.Checked.{said_of}
use Rattle.recipe_find.proofs.Finding.{no_outcome, not_limited}
use Rattle.recipe_find.proofs.Options.{none_when, some_when}
use Rattle.recipe_find.proofs.found_salvo.found_salvo.Goals as goal

pub returns-in_default-clause-found : goal.returns-in_default-clause-found
returns-in_default-clause-found g c =
    let none = none_when _ _ c.in_default.not-Some c.in_ok-outcome.ensures.none in
    no_outcome (said_of c.args.book.now) c.args.number c.args.lanes.now c.args.hits.now.hand c.requires.hand none

pub returns-then-not-is_outcome-clause-found : goal.returns-then-not-is_outcome-clause-found
returns-then-not-is_outcome-clause-found g c =
    let is = some_when _ _ _ c.in-Some.is c.in_ok-outcome.ensures.some in
    not_limited c.lanes_have_one_outcome.ensures (said_of c.args.book.now) c.args.number c.args.lanes.now c.args.hits.now.hand c.in-Some.outcome c.requires.hand
    is
    (λ product place. false≢true (sym c.if-not-is_outcome.true ∙ c.is_outcome.ensures.1 (product, place)))
