use Rattle.std.proofs.Common.{◌≡◌, ◌*◌, ◌<◌, ℕ, slice_index}
use Rattle.life_tiles.proofs.advancing.changed_tile.Given as goal

abbrev pub invariant-tiles : goal.invariant-tiles
invariant-tiles l = (at : ℕ) → at < 64 * l.index → slice_index l.next at ≡ slice_index l.rows at
