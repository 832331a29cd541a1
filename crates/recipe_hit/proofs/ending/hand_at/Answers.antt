use Rattle.std.proofs.Common.{◌∙◌, ap, sym}
use Rattle.life_cells.specs.Cells.{alive}
use Rattle.life_cells.specs.Laws.{alive-empty}
use Rattle.recipe_hit.specs.Sound.{left_hand}
use Rattle.recipe_hit.proofs.ending.hand_at.Goals as goal

pub returns-in-None : goal.returns-in-None
returns-in-None c = ap alive c.empty.ensures ∙ alive-empty ∙ ap (left_hand (alive c.args.hand.now)) (sym c.in-None.is)
