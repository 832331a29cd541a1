use Rattle.std.proofs.Common.{length, ◌∙◌}
use Rattle.recipe_book.specs.Checked.{said_of}
use Rattle.find_order.specs.FitLaws.{candidates_fit}
use Rattle.recipe_find.proofs.Options.{some_when}
use Rattle.recipe_find.proofs.Growth.{begins, goes_on, next_fits}
use Rattle.recipe_find.proofs.extending.found_entries.Goals as goal

pub loop-tried-init : goal.loop-tried-init
loop-tried-init g c =
    begins c.args.book.now c.settings-settings.result.now c.kinds-kinds.result.now c.turns.result.now c.salvos.result.now _ _ _ _ _ c.settings-settings.ensures.settings c.kinds-kinds.ensures c.turns.ensures c.salvos.ensures
    (c.start-hits.ensures ∙ c.checked_hand.ensures) c.in_ok-candidates.ensures c.in_ok-copy_turns.ensures c.in_ok-copy_salvos.ensures

pub try_candidate-requires-clause-fit : goal.try_candidate-requires-clause-fit
try_candidate-requires-clause-fit g c =
    let proper = c.settings-settings.ensures.checked in
    next_fits (said_of c.args.book.now) c.loop-tried.tried _ _ c.in-Some.candidate _ _ c.loop-tried.invariant.growing (some_when _ _ _ c.in-Some.is c.in_ok-candidate.ensures.some)
    (candidates_fit c.args.book.now.settings (length c.args.book.now.kinds) proper.proper.settings)

pub loop-tried-preserved : goal.loop-tried-preserved
loop-tried-preserved g c =
    goes_on c.args.book.now c.loop-tried.tried _ _ c.in-Some.candidate _ _ _ _ _ _ _ _ _ c.loop-tried.invariant (some_when _ _ _ c.in-Some.is c.in_ok-candidate.ensures.some)
    c.in_ok-try_candidate.ensures.grow c.in_ok-try_candidate.ensures.hand c.in_ok-try_candidate.ensures.least c.in_ok-try_candidate.ensures.most
