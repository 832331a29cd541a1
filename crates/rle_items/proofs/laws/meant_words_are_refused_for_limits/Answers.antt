use Rattle.rle_items.proofs.OneReading.{meant_for_limit}
use Rattle.rle_items.proofs.laws.meant_words_are_refused_for_limits.Goals as goal

pub returns : goal.returns
returns c = meant_for_limit
