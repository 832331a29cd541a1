use Rattle.std.proofs.Common.{arith, ◌<◌, ◌^◌, ◌∙◌}
use Rattle.std.proofs.lemmas.Result.{err_from_is_err_and}
use Rattle.recipe_book.specs.Checked.{said_of}
use Rattle.recipe_find.proofs.Whole.{proper_extended, extended_as, refused}
use Rattle.recipe_find.proofs.extending.extend.Goals as goal

pub returns-in_err-test_room-clause-refusal : goal.returns-in_err-test_room-clause-refusal
returns-in_err-test_room-clause-refusal g c =
    let p = err_from_is_err_and c.from_residual-in_err-test_room.result c.from_residual-in_err-test_room.ensures.1 in
    rw (p.1, p.2)
    (refused (said_of c.args.book.now) _ c.args.budget _
    (extended_as (said_of c.args.book.now) c.args.budget _ _ _ _ _ _ c.settings.ensures.settings (c.in_ok-copy.ensures ∙ c.hand.ensures) (c.in_ok-copy_kinds.ensures ∙ c.kinds.ensures) c.start.ensures c.in_ok-entries.ensures.extended)
    c.in_err-test_room.ensures.full)

pub returns-clause-proper : goal.returns-clause-proper
returns-clause-proper g c =
    let checked = c.settings.ensures.checked in
    let fits = c.ranges.budget in
    let small : c.args.budget < 2 ^ 32 = omega arith in
    proper_extended (said_of c.args.book.now) _ c.args.budget checked.proper small
    (extended_as (said_of c.args.book.now) c.args.budget _ _ _ _ _ _ c.settings.ensures.settings (c.in_ok-copy.ensures ∙ c.hand.ensures) (c.in_ok-copy_kinds.ensures ∙ c.kinds.ensures) c.start.ensures c.in_ok-entries.ensures.extended)
    c.in_ok-test_room.ensures.room
