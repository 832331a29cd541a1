use Rattle.life_cells.specs.Cells.{alive}
use Rattle.life_cli.proofs.sampling.plan_for.Goals as goal

pub returns-in-Err-clause-err : goal.returns-in-Err-clause-err
returns-in-Err-clause-err c = c.stopped.ensures c.args.book.now (alive c.args.target.now) c.in-Err.ensures.stop
