-- When a run has no reason to refuse, and how it then ends.
use Rattle.std.specs.Prelude.{List, Some}
use Rattle.life_io.specs.Texts.{HeldText}
use Rattle.life_words.specs.Words.{Words, Ask}
use Rattle.life_words.specs.declared.command.Command.{Command}
use Rattle.life_cli.specs.Stages.{Pass}
use Rattle.life_cli.specs.Commands.{stages_of}
use Rattle.life_cli.specs.declared.status.Status.{Status}
use Rattle.life_cli.specs.declared.status.Status.TheVariants.{Done, ReadFault, WriteFault, Memory}

-- the words ask for a command each of whose stages passes
pub record IsDue (words : Words) (texts : List HeldText) : Type 0 where
  pub command : Command
  pub asks : Ask words command
  pub passes : Pass (stages_of (Some texts) command)

-- done, but for want of memory and counted faults
abbrev pub IsDoneBut : Status → Type 0
IsDoneBut Done = Unit {0}
IsDoneBut Memory = Unit {0}
IsDoneBut ReadFault = Unit {0}
IsDoneBut WriteFault = Unit {0}
IsDoneBut other = ⊥
