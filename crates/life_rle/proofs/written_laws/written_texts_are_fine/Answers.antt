use Rattle.life_rle.proofs.ReadBack.{written_text_is_fine}
use Rattle.life_rle.proofs.written_laws.written_texts_are_fine.Goals as goal

pub returns : goal.returns
returns c = written_text_is_fine
