use Rattle.std.proofs.Common.{◌≡◌, arith}
use Rattle.life_cli.specs.Verdicts.{Judges, verdicts_text}
use Rattle.life_cli.proofs.StageLaws.{behind, answered}
use Rattle.life_cli.proofs.checking.report_on.Goals as goal

pub returns-clause-ends : goal.returns-clause-ends
returns-clause-ends g c =
    let said = c.args.book in
    let last = c.test_book.new.steps in
    let names = c.in_ok-titles.ensures in
    let shown = c.deref.ensures.value in
    let judged = c.deref-2.ensures.value in
    let is = c.in_ok-text.ensures in
    let written : c.in_ok-text.text.items ≡ verdicts_text said c.in_ok-verdicts.verdicts.items = cc in
    let text : Judges said c.in_ok-text.text.items = record { verdicts = c.in_ok-verdicts.verdicts.items; verdicts_are = c.in_ok-verdicts.ensures.verdicts; written = written } in
    let few = c.in_ok-verdicts.ensures.most in
    behind {mid = last} c.in_ok-verdicts.field-0-0 (λ f. f) c.in_ok-verdicts.ensures.ok (answered 0 (Judges said) ⊥ last last c.in_ok-text.text text (omega arith)) (omega arith)
