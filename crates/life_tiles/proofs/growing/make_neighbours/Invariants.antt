use Rattle.std.proofs.Common.{◌+◌, ◌*◌, ◌<◌, ◌≤◌, ℕ, length}
use Rattle.life_tiles.specs.Tiling.{OnlyMakes, IsSurrounded}
use Rattle.life_tiles.proofs.growing.make_neighbours.Given as goal

abbrev pub invariant-tiles : goal.invariant-tiles
invariant-tiles l = record {
  makes : OnlyMakes l.initial.tiles l.tiles;
  done : (i : ℕ) → i < l.index → IsSurrounded l.initial.tiles l.tiles i;
  few : length l.tiles.places.keys ≤ l.count + 8 * l.index;
}
