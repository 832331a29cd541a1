use Rattle.recipe_turn.proofs.Ranges.{placed_in_range}
use Rattle.recipe_turn.proofs.kinds.test_kind.Goals as goal

pub first_change-requires : goal.first_change-requires
first_change-requires g c = placed_in_range _ c.requires.placed
