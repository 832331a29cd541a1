use Rattle.std.proofs.Common.{◌≡◌, map, take}
use Rattle.recipe_hit.specs.Endless.{mirrored_cell}
use Rattle.recipe_hit.proofs.turned.mirrored.Given as goal

abbrev pub invariant-loop-cell : goal.invariant-loop-cell
invariant-loop-cell l = l.mirrored.items ≡ map mirrored_cell (take l.cell-index l.cell-items)
