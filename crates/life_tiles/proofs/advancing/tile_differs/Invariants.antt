use Rattle.std.proofs.Common.{◌≡◌, ◌+◌, ◌<◌, ℕ, slice_index}
use Rattle.life_tiles.proofs.advancing.tile_differs.Given as goal

abbrev pub invariant-loop-down : goal.invariant-loop-down
invariant-loop-down l = (k : ℕ) → k < l.down → slice_index l.next (l.first + k) ≡ slice_index l.rows (l.first + k)
