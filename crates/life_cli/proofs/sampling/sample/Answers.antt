use Rattle.std.proofs.Common.{arith}
use Rattle.life_cli.proofs.StageLaws.{behind}
use Rattle.life_cli.proofs.sampling.sample.Goals as goal

pub returns-clause-ends : goal.returns-clause-ends
returns-clause-ends g c = behind {mid = c.args.steps.now} c.in_ok-book.book (λ f. f) c.in_ok-book.ensures.stated c.answer_of.ensures.ends (omega arith)
