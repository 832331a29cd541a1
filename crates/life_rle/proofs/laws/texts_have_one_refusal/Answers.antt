use Rattle.life_rle.proofs.OneText.{one_text_refusal}
use Rattle.life_rle.proofs.laws.texts_have_one_refusal.Goals as goal

pub returns : goal.returns
returns c = one_text_refusal
