use Rattle.life_cells.specs.Cells.{alive}
use Rattle.recipe_hit.specs.InTurnLaws.{left_last}
use Rattle.recipe_hit.proofs.in_turn.left_by.Goals as goal

pub returns-in-Some : goal.returns-in-Some
returns-in-Some c = left_last (alive c.args.hand.now) c.args.hits.now c.in-Some.hit.now c.in-Some.ensures.value
