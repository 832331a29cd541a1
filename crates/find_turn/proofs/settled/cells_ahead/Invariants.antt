use Rattle.std.proofs.Common.{◌≡◌, take}
use Rattle.std.specs.List.{filter}
use Rattle.find_turn.specs.Settled.{is_ahead}
use Rattle.find_turn.proofs.settled.cells_ahead.Given as goal

abbrev pub invariant-loop-cell : goal.invariant-loop-cell
invariant-loop-cell l = l.kept.items ≡ filter (is_ahead l.limit) (take l.cell-index l.cell-items)
