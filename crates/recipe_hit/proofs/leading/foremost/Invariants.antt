use Rattle.std.proofs.Common.{◌≡◌, true}
use Rattle.life_cells.specs.Cells.{alive}
use Rattle.recipe_hit.proofs.leading.foremost.Given as goal

abbrev pub invariant-loop-cell : goal.invariant-loop-cell
invariant-loop-cell l = alive l.cells l.front.x l.front.y ≡ true
