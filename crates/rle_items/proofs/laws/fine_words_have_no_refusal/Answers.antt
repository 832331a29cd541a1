use Rattle.rle_items.proofs.OneReading.{fine_or_refused}
use Rattle.rle_items.proofs.laws.fine_words_have_no_refusal.Goals as goal

pub returns : goal.returns
returns c = fine_or_refused
