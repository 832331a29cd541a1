use Rattle.life_rle.proofs.OneMeaning.{one_plane}
use Rattle.life_rle.proofs.laws.texts_mean_one_plane.Goals as goal

pub returns : goal.returns
returns c = one_plane
