use Rattle.std.proofs.Common.{refl, []}
use Rattle.life_words.specs.declared.command.Command.TheVariants.{Certify}
use Rattle.life_words.proofs.read.read_certify.Goals as goal

pub values_behind-requires-clause-takes : goal.values_behind-requires-clause-takes
values_behind-requires-clause-takes c = (Certify [] [], (refl, refl))
