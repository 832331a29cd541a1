use Rattle.std.proofs.Common.{◌≡◌, ℤ, take}
use Rattle.std.specs.HashMap.{get}
use Rattle.std.specs.Ordering.{int_eq}
use Rattle.lane_clear.specs.Barriers.{with_cells}
use Rattle.lane_clear.proofs.barriers.add_cells.Given as goal

abbrev pub invariant-loop-cell : goal.invariant-loop-cell
invariant-loop-cell l = (lane : ℤ) → get int_eq l.barriers lane ≡ with_cells lane (get int_eq l.initial.barriers lane) (take l.cell-index l.cells)
