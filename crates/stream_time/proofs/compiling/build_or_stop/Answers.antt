use Rattle.life_cells.specs.Cells.{alive}
use Rattle.stream_time.proofs.Compiled.{no_memory_stops}
use Rattle.stream_time.proofs.compiling.build_or_stop.Goals as goal

pub returns-in-Err-clause-stop : goal.returns-in-Err-clause-stop
returns-in-Err-clause-stop c = no_memory_stops c.args.book.now (alive c.args.target.now) c.args.plan.now c.requires
