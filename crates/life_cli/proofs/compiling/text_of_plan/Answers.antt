use Rattle.std.proofs.Common.{arith}
use Rattle.life_cells.specs.Cells.{alive}
use Rattle.life_cli.specs.Compiled.{IsCompiled}
use Rattle.life_cli.proofs.StageLaws.{hands_on, behind, answered}
use Rattle.life_cli.proofs.compiling.text_of_plan.Goals as goal

pub returns-in_err-built : goal.returns-in_err-built
returns-in_err-built c = λ count. hands_on c.from_residual.result _ c.from_residual.ensures.1 (λ f. f) c.in_err-built.ensures.err (omega arith)

pub returns : goal.returns
returns c = λ count.
    let book = c.args.book.now in
    let target = alive c.args.target.now in
    let built = c.in_ok-built.built in
    let is = c.in_ok-built.ensures.ok in
    let text : IsCompiled book target c.in_ok-text.text.items = record { built = built; is_built = is; written = c.in_ok-text.ensures.text; means = c.in_ok-text.ensures.means; exact = c.in_ok-built.ensures.exact } in
    behind {mid = count} tt (λ f. f) (is.plan, is.is_plan) (answered 0 (IsCompiled book target) ⊥ count count c.in_ok-text.text text (omega arith)) (omega arith)
