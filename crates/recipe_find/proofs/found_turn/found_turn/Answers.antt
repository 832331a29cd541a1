use Rattle.std.proofs.Common.{sym, subst, ◌∙◌}
use Rattle.std.proofs.lemmas.Bool.{false≢true}
use Rattle.find_turn.specs.Found.{HasNoTurn, IsLeastTurn}
use Rattle.recipe_book.specs.Checked.{said_of}
use Rattle.recipe_find.proofs.Finding.{no_turn, not_limited_turn}
use Rattle.recipe_find.proofs.Options.{unmatched_when, matched_when}
use Rattle.recipe_find.proofs.found_turn.found_turn.Goals as goal

pub returns-in_default-clause-found : goal.returns-in_default-clause-found
returns-in_default-clause-found g c =
    let none = unmatched_when _ _ _ c.in_default.not-Some c.in_ok-found.ensures.found in
    no_turn (said_of c.args.book.now) c.args.number c.args.kind c.args.delays.now _ _ c.settings-settings.ensures.settings c.checked_kinds-kinds.ensures.kinds
    (subst (HasNoTurn _ _ c.args.kind) c.items-2.ensures none)

pub returns-then-not-is_end-clause-found : goal.returns-then-not-is_end-clause-found
returns-then-not-is_end-clause-found g c =
    let is = matched_when _ _ _ _ c.in-Some.is c.in_ok-found.ensures.found in
    let checked = c.settings-settings.ensures.checked in
    not_limited_turn c.one_turn_is_the_least.ensures (said_of c.args.book.now) c.args.number c.args.kind c.args.delays.now c.settings-settings.result.now c.checked_kinds-kinds.result.now.raw c.in-Some.found checked.proper.kinds checked.valid
    c.settings-settings.ensures.settings c.checked_kinds-kinds.ensures.kinds (subst (λ d. IsLeastTurn c.settings-settings.result.now c.checked_kinds-kinds.result.now.raw c.args.kind d c.in-Some.found) c.items-2.ensures is)
    (λ end_is. false≢true (sym c.if-not-is_end.true ∙ c.is_end.ensures.1 end_is))
