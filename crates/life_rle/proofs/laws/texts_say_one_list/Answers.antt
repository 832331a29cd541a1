use Rattle.life_rle.proofs.OneMeaning.{one_saying}
use Rattle.life_rle.proofs.laws.texts_say_one_list.Goals as goal

pub returns : goal.returns
returns c = one_saying
