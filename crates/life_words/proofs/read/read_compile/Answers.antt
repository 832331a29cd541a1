use Rattle.std.proofs.Common.{refl, []}
use Rattle.life_words.specs.declared.command.Command.TheVariants.{Compile}
use Rattle.life_words.proofs.read.read_compile.Goals as goal

pub values_behind-requires-clause-takes : goal.values_behind-requires-clause-takes
values_behind-requires-clause-takes c = (Compile [] [], (refl, refl))
