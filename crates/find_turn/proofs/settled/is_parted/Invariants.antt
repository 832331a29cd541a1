use Rattle.std.proofs.Common.{◌≡◌, ℕ, ◌<◌, Some, pos, ◌-ℤ◌}
use Rattle.std.specs.List.{slice_get}
use Rattle.life_plane.specs.Strips.{VAtMost}
use Rattle.life_cells.specs.declared.cell.Cell.{Cell}
use Rattle.find_turn.proofs.settled.is_parted.Given as goal
use Rattle.find_turn.specs.declared.settled.TheConstants.{FLIGHT_MARGIN}

abbrev pub invariant-loop-cell : goal.invariant-loop-cell
invariant-loop-cell l = (k : ℕ) (d : Cell) → k < l.cell-index → slice_get l.cell-items k ≡ Some d → VAtMost (l.limit -ℤ FLIGHT_MARGIN) d.x d.y
