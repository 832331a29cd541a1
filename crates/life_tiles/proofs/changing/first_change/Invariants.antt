use Rattle.std.proofs.Common.{◌≡◌, ◌<◌, ℕ, slice_index}
use Rattle.life_tiles.specs.Spans.{InSpan}
use Rattle.life_tiles.proofs.changing.first_change.Given as goal

abbrev pub invariant-loop-down : goal.invariant-loop-down
invariant-loop-down l = (row : ℕ) → InSpan l.span row → row < l.down → slice_index l.changes row ≡ 0
