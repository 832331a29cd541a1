use Rattle.life_rle.proofs.OneText.{said_for_limit}
use Rattle.life_rle.proofs.laws.said_texts_are_refused_for_limits.Goals as goal

pub returns : goal.returns
returns c = said_for_limit
