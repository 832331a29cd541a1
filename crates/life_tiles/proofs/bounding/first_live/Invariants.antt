use Rattle.std.proofs.Common.{◌≡◌, ◌+◌, ◌<◌, ℕ, slice_index}
use Rattle.life_tiles.proofs.bounding.first_live.Given as goal

abbrev pub invariant-loop-down : goal.invariant-loop-down
invariant-loop-down l = (row : ℕ) → row < l.down → slice_index l.rows (l.first + row) ≡ 0
