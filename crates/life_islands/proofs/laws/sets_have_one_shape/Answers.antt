use Rattle.life_islands.specs.ShapeLaws.{one_shape}
use Rattle.life_islands.proofs.laws.sets_have_one_shape.Goals as goal

pub returns : goal.returns
returns c = one_shape
