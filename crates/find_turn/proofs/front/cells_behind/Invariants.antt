use Rattle.std.proofs.Common.{◌≡◌, take}
use Rattle.std.specs.List.{filter}
use Rattle.find_turn.specs.Behind.{is_behind}
use Rattle.find_turn.proofs.front.cells_behind.Given as goal

abbrev pub invariant-loop-cell : goal.invariant-loop-cell
invariant-loop-cell l = l.kept.items ≡ filter (is_behind l.settings.wall) (take l.cell-index l.cell-items)
