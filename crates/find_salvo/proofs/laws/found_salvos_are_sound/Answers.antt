use Rattle.find_salvo.specs.OutcomeLaws.{sound_outcome}
use Rattle.find_salvo.proofs.laws.found_salvos_are_sound.Goals as goal

pub returns : goal.returns
returns c = sound_outcome
