-- No tile.
use Rattle.std.proofs.Common.{◌≡◌, ℕ, ◌≤◌, List, [], length, slice_index, ap, ◌∙◌, arith}
use Rattle.life_tiles.specs.declared.place.Place.{Place}
use Rattle.life_tiles.specs.declared.tile_map.TileMap.{TileMap}
use Rattle.life_tiles.specs.Tiling.{same_place, IsLong, IsTiled, OnlyAppends}
use Rattle.life_tiles.proofs.Pruned.{distinct_none, none_there}

-- zeros alone
zeros_long : (tiles : ℕ) (first rows : List ℕ) → tiles ≡ 0 → first ≡ [] → OnlyAppends first rows → IsLong tiles rows
zeros_long tiles first rows none empty appends = record { long = omega arith; ends = λ j h. appends.read j ∙ ap (λ (xs : List ℕ). slice_index xs j) empty }

pub none_tiled : (m : TileMap) (rows next : List ℕ) → m.places.keys ≡ [] → m.kept.keys ≡ [] → m.room ≡ 0 → rows ≡ [] → next ≡ [] → OnlyAppends rows m.rows.items → OnlyAppends next m.next.items
    → 64 ≤ length m.rows.items → 64 ≤ length m.next.items → IsTiled m
none_tiled m rows next none no_kept no_room no_rows no_next appends appends_next long next_long =
    let count : length m.places.keys ≡ 0 = ap (λ (ks : List Place). length ks) none in
    record {
      distinct = distinct_none same_place m.places.keys none;
      rows = zeros_long (length m.places.keys) rows m.rows.items count no_rows appends;
      next = zeros_long (length m.places.keys) next m.next.items count no_next appends_next;
      near = record { each = λ i p h. absurd (none_there m.places.keys i p none h) };
      links = record { each = λ i direction p h. absurd (none_there m.places.keys i p none h) };
      room = record { few = omega arith; places = omega arith; kept = omega arith; rows = omega arith; next = omega arith; beside = omega arith; awake = omega arith; waking = omega arith };
      none = no_kept;
    }
