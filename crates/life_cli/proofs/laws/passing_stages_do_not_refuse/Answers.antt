use Rattle.std.specs.declared.option.Option.TheVariants.{Some}
use Rattle.life_cli.specs.Commands.{stages_of}
use Rattle.life_cli.proofs.StageLaws.{passing_stages}
use Rattle.life_cli.proofs.laws.passing_stages_do_not_refuse.Goals as goal

pub returns : goal.returns
returns c = λ texts command status. passing_stages (stages_of (Some texts) command) status (c.stages_are_exact.ensures texts command)
