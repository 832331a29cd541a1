-- Its tidy items are one.
use Rattle.life_rle.proofs.OneWriting.{one_word}
use Rattle.life_rle.proofs.written_laws.sets_have_one_word.Goals as goal

pub returns : goal.returns
returns c = one_word
