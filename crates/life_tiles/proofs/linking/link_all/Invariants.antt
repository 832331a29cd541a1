use Rattle.std.proofs.Common.{◌≡◌, ◌+◌, ◌*◌, ◌<◌, ℕ, Some, slice_get, slice_index}
use Rattle.life_tiles.specs.declared.place.Place.{Place}
use Rattle.life_tiles.specs.Tiling.{neighbour, IsLink}
use Rattle.life_tiles.proofs.linking.link_all.Given as goal

abbrev pub invariant-tiles : goal.invariant-tiles
invariant-tiles l = (i direction : ℕ) (p : Place) → i < l.index → slice_get l.places.keys i ≡ Some p → direction < 9 → IsLink l.places.keys (neighbour p direction) (slice_index l.beside (9 * i + direction))
