use Rattle.std.proofs.Common.{◌≡◌, ℕ, ◌<◌, Some}
use Rattle.std.specs.List.{slice_get}
use Rattle.life_cells.specs.declared.cell.Cell.{Cell}
use Rattle.life_cells.specs.Cells.{in_order}
use Rattle.recipe_turn.specs.Bounds.{Keeps}
use Rattle.recipe_turn.proofs.bounds.first_breaking.Given as goal

abbrev pub invariant-loop-cell : goal.invariant-loop-cell
invariant-loop-cell l = (k : ℕ) (d : Cell) → k < l.cell-index → slice_get (in_order l.cells) k ≡ Some d → Keeps l.settings l.bound d.x d.y
