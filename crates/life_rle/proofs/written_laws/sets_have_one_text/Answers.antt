-- Its frame is one, and so are its tidy items.
use Rattle.life_rle.proofs.OneWriting.{one_text}
use Rattle.life_rle.proofs.written_laws.sets_have_one_text.Goals as goal

pub returns : goal.returns
returns c = one_text
