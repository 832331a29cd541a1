use Rattle.std.proofs.Common.{◌≡◌, map, take}
use Rattle.recipe_hit.specs.Endless.{transposed_cell}
use Rattle.recipe_hit.proofs.turned.transposed.Given as goal

abbrev pub invariant-loop-cell : goal.invariant-loop-cell
invariant-loop-cell l = l.transposed.items ≡ map transposed_cell (take l.cell-index l.cell-items)
