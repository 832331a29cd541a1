use Rattle.std.proofs.Common.{refl}
use Rattle.life_cli.specs.Run.{Run}
use Rattle.life_cli.proofs.Ending.{LawsOfRuns, reported, due_runs_are_done}
use Rattle.life_cli.proofs.run.life_run.Goals as goal

pub returns-clause-complete : goal.returns-clause-complete
returns-clause-complete g c =
    let run : Run = record {
      words = c.args.words.now;
      told = g.D.Depot.texts c.args.depot.now;
      reads = g.D.Depot.faults c.args.depot.now;
      reads_then = g.D.Depot.faults c.run_command-status.new.depot;
      out = g.O.Sink.written c.args.out.now;
      out_then = g.O.Sink.written c.run_command-status.new.out;
      writes = g.O.Sink.faults c.args.out.now;
      writes_then = g.O.Sink.faults c.run_command-status.new.out;
    } in
    let laws : LawsOfRuns = record {
      one_command = c.words_ask_for_one_command.ensures;
      not_refused = c.asking_words_are_not_refused.ensures;
      passing = c.passing_stages_do_not_refuse.ensures;
    } in
    due_runs_are_done laws run c.report.result run.told refl
    (reported run c.run_command-status.result c.report.result c.run_command-status.ensures.ends c.report.ensures.same c.report.ensures.done)
