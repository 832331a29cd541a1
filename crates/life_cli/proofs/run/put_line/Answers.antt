use Rattle.std.specs.Io.KnownBytes.{append_known}
use Rattle.std.proofs.Common.{ap, ◌∙◌}
use Rattle.life_cli.proofs.Gaining.{gains_line}
use Rattle.life_cli.proofs.run.put_line.Goals as goal

pub returns-in-Ok-put-clause-gains : goal.returns-in-Ok-put-clause-gains
returns-in-Ok-put-clause-gains g c =
    gains_line c.args.status _ _ _ _ c.requires (c.in-Ok-put.ensures.ok ∙ ap (append_known (g.E.Sink.written c.args.err.now)) (c.as_bytes.ensures.value ∙ c.in-Ok.ensures))
