use Rattle.std.proofs.Common.{◌≡◌, ◌≤◌, take}
use Rattle.std.specs.List.{count_by}
use Rattle.life_tiles.specs.Tiling.{set_of}
use Rattle.life_tiles.proofs.Counted.{is_live}
use Rattle.life_tiles.proofs.counting.live_count.Given as goal

abbrev pub invariant-tiles : goal.invariant-tiles
invariant-tiles l = record {
  live : l.live ≡ count_by (is_live (set_of l.tiles)) (take l.index l.tiles.places.keys);
  few : l.live ≤ l.index;
}
