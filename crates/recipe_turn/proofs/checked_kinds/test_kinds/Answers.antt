use Rattle.std.proofs.Common.{◌+◌, subst}
use Rattle.std.proofs.lemmas.Result.{err_from_is_err_and}
use Rattle.life_cells.specs.Cells.{alive}
use Rattle.book_parts.specs.declared.kind.RawKind.{RawKind}
use Rattle.recipe_turn.specs.Refusals.{KindIsRefused}
use Rattle.recipe_turn.proofs.Refused.{refused_here}
use Rattle.recipe_turn.proofs.checked_kinds.test_kinds.Goals as goal

pub returns-in_err-test_kind-clause-refusal : goal.returns-in_err-test_kind-clause-refusal
returns-in_err-test_kind-clause-refusal g c =
    let same = err_from_is_err_and c.from_residual.result c.from_residual.ensures.1 in
    let here = subst (λ (kind : RawKind). KindIsRefused c.args.settings.now (c.loop-place.place + 1) (alive kind.cells) c.in_err-test_kind.field-0.0) c.index-kinds-place.is c.in_err-test_kind.ensures.refusal in
    rw (same.1, same.2) (refused_here c.args.settings.now c.args.kinds.now c.loop-place.place _ c.loop-place-test.true c.loop-place.invariant.valid c.in_err-test_kind.field-0.0 here)
