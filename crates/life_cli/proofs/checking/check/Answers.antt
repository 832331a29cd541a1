use Rattle.std.proofs.Common.{arith}
use Rattle.life_cli.proofs.StageLaws.{behind}
use Rattle.life_cli.proofs.checking.check.Goals as goal

pub returns-clause-ends : goal.returns-clause-ends
returns-clause-ends g c = behind c.in_ok-book.book (λ f. absurd f) c.in_ok-book.ensures.ok c.report_on.ensures.ends (omega arith)
