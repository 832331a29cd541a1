use Rattle.rle_items.proofs.OneReading.{one_refusal}
use Rattle.rle_items.proofs.laws.words_have_one_refusal.Goals as goal

pub returns : goal.returns
returns c = one_refusal
