use Rattle.recipe_hit.proofs.Ends.{whole_if_empty, whole_if_island}
use Rattle.life_plane.specs.LookUpLaws.{not_if_false}
use Rattle.recipe_hit.proofs.Comparisons.{if_ok}
use Rattle.recipe_hit.proofs.ending.is_whole.Goals as goal

pub returns-then-is_empty : goal.returns-then-is_empty
returns-then-is_empty c = whole_if_empty c.args.cells.now (c.is_empty.ensures.0 c.if-is_empty.true)

pub returns : goal.returns
returns c = if_ok c.is_one_island.result _ _ (λ one decides. whole_if_island c.args.cells.now one (not_if_false _ _ c.if-is_empty.false c.is_empty.ensures) decides) c.is_one_island.ensures
