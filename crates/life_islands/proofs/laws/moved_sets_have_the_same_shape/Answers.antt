use Rattle.life_islands.specs.ShapeLaws.{shape_moves}
use Rattle.life_islands.proofs.laws.moved_sets_have_the_same_shape.Goals as goal

pub returns : goal.returns
returns c = shape_moves
