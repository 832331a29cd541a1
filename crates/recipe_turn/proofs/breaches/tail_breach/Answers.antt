use Rattle.life_cells.specs.Cells.{alive}
use Rattle.recipe_turn.specs.Turn.{IsAheadOrOwn}
use Rattle.recipe_turn.proofs.KnownBounds.{first_known}
use Rattle.recipe_turn.proofs.breaches.tail_breach.Goals as goal

pub returns : goal.returns
returns c = λ start same known.
    first_known (IsAheadOrOwn c.args.settings.now c.args.delays.now) start (alive c.args.cells.now) c.args.generation c.args.found c.in_ok-cell.cell c.if-is_some.ensures same known c.in_ok-cell.ensures
