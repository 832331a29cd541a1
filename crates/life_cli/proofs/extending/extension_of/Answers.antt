use Rattle.std.proofs.Common.{arith}
use Rattle.life_cli.proofs.StageLaws.{behind}
use Rattle.life_cli.proofs.extending.extension_of.Goals as goal

pub returns-clause-ends : goal.returns-clause-ends
returns-clause-ends g c =
    let few = c.in_ok-book.ensures.most in
    behind {mid = c.test_book.new.steps} c.in_ok-book.book (λ f. f) c.in_ok-book.ensures.ok c.text_of_whole.ensures.ends (omega arith)
