use Rattle.std.proofs.Common.{arith}
use Rattle.life_cli.proofs.StageLaws.{behind}
use Rattle.life_cli.proofs.extending.extend.Goals as goal

pub returns-clause-ends : goal.returns-clause-ends
returns-clause-ends g c = behind c.in_ok-book.book (λ f. absurd f) c.in_ok-book.ensures.ok c.extension_of.ensures.ends (omega arith)
