use Rattle.std.proofs.Common.{◌≡◌, ap, subst, ◌∙◌, arith}
use Rattle.life_plane.specs.Plane.{Plane, nothing}
use Rattle.life_cells.specs.Cells.{alive}
use Rattle.life_cells.specs.Laws.{alive-empty}
use Rattle.book_parts.specs.KindLaws.{empty_dead}
use Rattle.life_target.specs.Targets.{IsTarget}
use Rattle.life_cli.specs.Stages.{HasCause}
use Rattle.life_cli.specs.Compiled.{TargetRefuses}
use Rattle.life_cli.proofs.StageLaws.{hands_on, behind}
use Rattle.life_cli.proofs.sampling.answer_of.Goals as goal

pub target_of-requires : goal.target_of-requires
target_of-requires g c = record {
  x_low = λ x y h. absurd (empty_dead c.empty.result x y c.empty.ensures h);
  x_high = λ x y h. absurd (empty_dead c.empty.result x y c.empty.ensures h);
  y_low = λ x y h. absurd (empty_dead c.empty.result x y c.empty.ensures h);
  y_high = λ x y h. absurd (empty_dead c.empty.result x y c.empty.ensures h);
}

pub returns-in_err-target-clause-ends : goal.returns-in_err-target-clause-ends
returns-in_err-target-clause-ends g c =
    let none : alive c.empty.result ≡ nothing = ap alive c.empty.ensures ∙ alive-empty in
    let few = c.in_err-target.ensures.most in
    hands_on c.from_residual.result c.in_err-target.field-0.0 c.from_residual.ensures.1 (λ f. f) (subst (λ (s : Plane). HasCause ⊥ (TargetRefuses s) c.in_err-target.field-0.0) none c.in_err-target.ensures.err) (omega arith)

pub returns-in_err-book-clause-ends : goal.returns-in_err-book-clause-ends
returns-in_err-book-clause-ends g c =
    let none : alive c.in_ok-target.target ≡ nothing = ap alive (c.in_ok-target.ensures.same ∙ c.empty.ensures) ∙ alive-empty in
    let few = c.in_ok-target.ensures.most in
    let few_tested = c.in_err-book.ensures.most in
    behind {mid = c.target_of.new.steps} tt (λ f. f) (subst (λ (s : Plane). IsTarget s) none c.in_ok-target.ensures.target)
    (hands_on c.from_residual-in_err-book.result c.in_err-book.field-0.0 c.from_residual-in_err-book.ensures.1 (λ f. f) c.in_err-book.ensures.err (omega arith))
    (omega arith)

pub text_of_summary-requires : goal.text_of_summary-requires
text_of_summary-requires g c = ap alive (c.in_ok-target.ensures.same ∙ c.empty.ensures) ∙ alive-empty

pub returns-clause-ends : goal.returns-clause-ends
returns-clause-ends g c =
    let none : alive c.in_ok-target.target ≡ nothing = ap alive (c.in_ok-target.ensures.same ∙ c.empty.ensures) ∙ alive-empty in
    let last = c.test_book.new.steps in
    let few = c.in_ok-target.ensures.most in
    let few_tested = c.in_ok-book.ensures.most in
    behind {mid = c.target_of.new.steps} tt (λ f. f) (subst (λ (s : Plane). IsTarget s) none c.in_ok-target.ensures.target)
    (behind {before = c.target_of.new.steps} {mid = last} c.in_ok-book.book (λ f. f) c.in_ok-book.ensures.ok (c.text_of_summary.ensures last) (omega arith))
    (omega arith)
