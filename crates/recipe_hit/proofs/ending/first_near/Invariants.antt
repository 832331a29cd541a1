use Rattle.std.proofs.Common.{◌≡◌, ℕ, ◌<◌, Some}
use Rattle.std.specs.List.{slice_get}
use Rattle.life_cells.specs.declared.cell.Cell.{Cell}
use Rattle.life_cells.specs.Cells.{alive, in_order}
use Rattle.life_cells.specs.Close.{Close}
use Rattle.recipe_hit.proofs.ending.first_near.Given as goal

abbrev pub invariant-loop-cell : goal.invariant-loop-cell
invariant-loop-cell l = (k : ℕ) (d : Cell) → k < l.cell-index → slice_get (in_order l.product) k ≡ Some d → Close (alive l.hand) d.x d.y → ⊥
