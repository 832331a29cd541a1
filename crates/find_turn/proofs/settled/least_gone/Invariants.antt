use Rattle.std.proofs.Common.{◌≡◌, ℕ, ◌<◌, Some, IfSome}
use Rattle.std.specs.List.{slice_get}
use Rattle.life_cells.specs.Cells.{alive}
use Rattle.life_cells.specs.declared.cell.Cell.{Cell}
use Rattle.find_turn.specs.Boxes.{IsNear}
use Rattle.find_turn.proofs.Gone.{IsGoneOn, IsNotBefore}
use Rattle.find_turn.proofs.settled.least_gone.Given as goal

abbrev pub invariant-loop-cell : goal.invariant-loop-cell
invariant-loop-cell l = record {
  each : (k : ℕ) (d : Cell) → k < l.cell-index → slice_get l.cell-items k ≡ Some d → IsNotBefore l.least (alive l.later) d.x d.y;
  on : IfSome l.least (IsGoneOn (alive l.cells) (alive l.later));
  near : IfSome l.least IsNear;
}
