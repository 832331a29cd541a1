use Rattle.life_rle.proofs.OneText.{fine_text_or_refused}
use Rattle.life_rle.proofs.laws.fine_texts_have_no_refusal.Goals as goal

pub returns : goal.returns
returns c = fine_text_or_refused
