use Rattle.std.proofs.Common.{◌≡◌, ℕ, ◌<◌, true, ◌+ℤ◌, Some}
use Rattle.std.specs.List.{slice_get}
use Rattle.life_cells.specs.declared.cell.Cell.{Cell}
use Rattle.life_cells.specs.Cells.{alive, in_order}
use Rattle.find_salvo.proofs.standing.lies_in.Given as goal

abbrev pub invariant-loop-cell : goal.invariant-loop-cell
invariant-loop-cell l = (k : ℕ) (d : Cell) → k < l.cell-index → slice_get (in_order l.hand) k ≡ Some d → alive l.left (d.x +ℤ l.place.x) (d.y +ℤ l.place.y) ≡ true
