use Rattle.life_words.proofs.Asking.{not_refused}
use Rattle.life_words.proofs.laws.asking_words_are_not_refused.Goals as goal

pub returns : goal.returns
returns c = not_refused
