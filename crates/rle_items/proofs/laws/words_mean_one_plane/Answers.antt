use Rattle.rle_items.proofs.OneReading.{one_meaning}
use Rattle.rle_items.proofs.laws.words_mean_one_plane.Goals as goal

pub returns : goal.returns
returns c = one_meaning
