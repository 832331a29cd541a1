use Rattle.life_words.proofs.Asking.{one_refusal}
use Rattle.life_words.proofs.laws.words_have_one_refusal.Goals as goal

pub returns : goal.returns
returns c = one_refusal
