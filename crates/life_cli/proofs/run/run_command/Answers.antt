use Rattle.std.specs.Prelude.{List, ℕ}
use Rattle.std.proofs.Common.{subst}
use Rattle.life_cli.specs.Putting.{PuttingRefuses}
use Rattle.life_cli.specs.Run.{Run}
use Rattle.life_cli.proofs.Asked.{asked_within}
use Rattle.life_cli.proofs.Ending.{unput}
use Rattle.life_cli.proofs.run.run_command.Goals as goal

pub answer-requires : goal.answer-requires
answer-requires g c = asked_within _ _ c.in-Ok.ensures.ok

pub returns-in-Err-put_text-clause-ends : goal.returns-in-Err-put_text-clause-ends
returns-in-Err-put_text-clause-ends g c =
    let run : Run = record {
      words = c.args.words.now;
      told = g.D.Depot.texts c.args.depot.now;
      reads = g.D.Depot.faults c.args.depot.now;
      reads_then = g.D.Depot.faults c.answer.new.depot;
      out = g.O.Sink.written c.args.out.now;
      out_then = g.O.Sink.written c.put_text.new.out;
      writes = g.O.Sink.faults c.args.out.now;
      writes_then = g.O.Sink.faults c.put_text.new.out;
    } in
    let text = c.in-Ok-answer.text.items in
    let status = c.in-Err-put_text.status in
    unput run c.in-Ok.command text status c.in-Ok.ensures.ok c.in-Ok-answer.ensures.ends.ok (c.in-Ok-answer.ensures.no_fault (λ e. cc))
    (subst (λ (bytes : List ℕ). PuttingRefuses run.out run.out_then bytes run.writes run.writes_then status) c.deref.ensures.value c.in-Err-put_text.ensures.err)
    (λ other. c.in-Err-put_text.ensures.no_fault (λ e. other (cc)))
