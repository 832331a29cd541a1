use Rattle.life_kernel.specs.WordLaws.{next_words_step}
use Rattle.life_kernel.proofs.laws.words_step_as_planes.Goals as goal

pub returns : goal.returns
returns c = next_words_step
