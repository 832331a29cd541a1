use Rattle.std.proofs.Common.{◌≡◌, ◌+◌, ◌*◌, ◌<◌, ℕ, min, length, slice_index}
use Rattle.life_tiles.proofs.linking.about.Given as goal

abbrev pub invariant-loop-direction : goal.invariant-loop-direction
invariant-loop-direction l = record {
  long : length l.about ≡ 9;
  each : (direction : ℕ) → direction < l.direction → slice_index l.about direction ≡ min (slice_index l.beside (9 * l.index + direction)) l.count;
}
