use Rattle.life_words.proofs.Asking.{one_command}
use Rattle.life_words.proofs.laws.words_ask_for_one_command.Goals as goal

pub returns : goal.returns
returns c = one_command
