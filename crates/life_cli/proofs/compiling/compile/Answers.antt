-- The book and the target are those of the texts that the depot told at first, and the count is that of the last fetch.
use Rattle.std.specs.Prelude.{ℕ}
use Rattle.std.proofs.Common.{subst, arith}
use Rattle.life_cells.specs.Cells.{alive}
use Rattle.life_io.specs.Counts.{Rose}
use Rattle.life_cli.specs.declared.status.Which.TheVariants.{Target}
use Rattle.life_cli.specs.Stages.{HasCause}
use Rattle.life_cli.specs.Inputs.{Told, HoldsPattern, IsUnread, PatternTextStops}
use Rattle.life_cli.proofs.StageLaws.{hands_on, behind}
use Rattle.life_cli.proofs.compiling.compile.Goals as goal

pub returns-in_err-target-clause-ends : goal.returns-in_err-target-clause-ends
returns-in_err-target-clause-ends g c =
    let old = g.D.Depot.faults c.args.depot.now in
    let mid = g.D.Depot.faults c.fetch_book.new.depot in
    let new = g.D.Depot.faults c.fetch_pattern.new.depot in
    let status = c.in_err-target.field-0.0 in
    let Cause : Told → Type 0 = λ told. HasCause (Rose mid new) (IsUnread (PatternTextStops Target) told c.args.target_name.now Target) status in
    behind {mid = c.args.steps.now} c.in_ok-book.book (λ f. f) c.in_ok-book.ensures.ok
    (hands_on c.from_residual-in_err-target.result status c.from_residual-in_err-target.ensures.1 (λ r. subst (λ (before : ℕ). Rose before new) (c.in_ok-book.ensures.no_fault (λ e. cc)) r)
    (subst Cause c.in_ok-book.ensures.texts_stay c.in_err-target.ensures.err) (omega arith))
    (omega arith)

pub returns-clause-ends : goal.returns-clause-ends
returns-clause-ends g c =
    let cells = alive c.in_ok-target.target.cells in
    behind {mid = c.args.steps.now} c.in_ok-book.book (λ f. f) c.in_ok-book.ensures.ok
    (behind {mid = c.args.steps.now} cells (λ f. absurd f)
    (subst (λ (told : Told). HoldsPattern told c.args.target_name.now cells) c.in_ok-book.ensures.texts_stay c.in_ok-target.ensures.ok) c.answer_of.ensures.ends (omega arith))
    (omega arith)
