use Rattle.std.proofs.Common.{◌≡◌, ◌≤◌, ℕ, slice_index}
use Rattle.life_tiles.specs.Spans.{InSpan}
use Rattle.life_tiles.proofs.changing.end_of_changes.Given as goal

abbrev pub invariant-loop-down : goal.invariant-loop-down
invariant-loop-down l = (row : ℕ) → InSpan l.fn.span row → l.down ≤ row → slice_index l.changes row ≡ 0
