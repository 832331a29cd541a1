use Rattle.std.proofs.Common.{◌≡◌, ap, subst, arith}
use Rattle.life_plane.specs.Plane.{Plane}
use Rattle.life_cells.specs.Cells.{alive}
use Rattle.life_target.specs.Targets.{IsTarget}
use Rattle.life_cli.specs.Stages.{EndWith}
use Rattle.life_cli.specs.Compiled.{planning}
use Rattle.life_cli.proofs.StageLaws.{hands_on, behind}
use Rattle.life_cli.proofs.compiling.answer_of.Goals as goal

pub returns-in_err-book-clause-ends : goal.returns-in_err-book-clause-ends
returns-in_err-book-clause-ends g c =
    let same : alive c.in_ok-target.target ≡ alive c.args.cells = ap alive c.in_ok-target.ensures.same in
    let few = c.in_ok-target.ensures.most in
    let few_tested = c.in_err-book.ensures.most in
    behind {mid = c.target_of.new.steps} tt (λ f. f) (subst (λ (s : Plane). IsTarget s) same c.in_ok-target.ensures.target)
    (hands_on c.from_residual-in_err-book.result c.in_err-book.field-0.0 c.from_residual-in_err-book.ensures.1 (λ f. f) c.in_err-book.ensures.err (omega arith))
    (omega arith)

pub returns-clause-ends : goal.returns-clause-ends
returns-clause-ends g c =
    let checked = c.in_ok-book.book in
    let last = c.test_book.new.steps in
    let same : alive c.in_ok-target.target ≡ alive c.args.cells = ap alive c.in_ok-target.ensures.same in
    let few = c.in_ok-target.ensures.most in
    let few_tested = c.in_ok-book.ensures.most in
    let plan = subst (λ (s : Plane). EndWith (planning checked s) ⊥ last last c.text_of_plan.result) same (c.text_of_plan.ensures last) in
    behind {mid = c.target_of.new.steps} tt (λ f. f) (subst (λ (s : Plane). IsTarget s) same c.in_ok-target.ensures.target)
    (behind {before = c.target_of.new.steps} {mid = last} checked (λ f. f) c.in_ok-book.ensures.ok plan (omega arith))
    (omega arith)
