-- How tiles with no live cell are given back: those with live cells are put one after the other.
use Rattle.std.specs.Prelude.{◌≡◌, ◌⊎◌, ℕ, ◌+◌, ◌*◌, ◌<◌, ◌≤◌, [], ◌∷◌, ◌++◌, Some, slice_get, slice_index, length}
use Rattle.std.specs.List.{IsDistinct}
use Rattle.indexmap.specs.IndexSet.{spare}
use Rattle.life_tiles.specs.declared.place.Place.{Place}
use Rattle.life_tiles.specs.declared.tile_map.TileMap.{TileMap}
use Rattle.life_tiles.specs.Tiling.{same_place, IsEmptyTile, IsLiveTile}

-- each tile has a live cell
pub record EachLives (m : TileMap) : Type 0 where
  pub each : (i : ℕ) → i < length m.places.keys → IsLiveTile m.rows.items i

-- the tiles before this index are looked at
pub record IsKeeping (m : TileMap) (index : ℕ) : Type 0 where
  pub few : length m.kept.keys ≤ index
  pub room : index < m.room
  pub spare : m.room ≤ length m.kept.keys + spare m.kept
  pub long : 64 * index + 64 ≤ length m.rows.items
  pub fresh : (k : ℕ) (p : Place) → slice_get m.kept.keys k ≡ Some p → slice_get m.places.keys index ≡ Some p → ⊥

-- the tile at this index has no live cell, and is passed over
pub record SkipsTile (before after : TileMap) (index : ℕ) : Type 0 where
  pub empty : IsEmptyTile before.rows.items index
  pub kept : after.kept.keys ≡ before.kept.keys
  pub rows : (j : ℕ) → slice_index after.rows.items j ≡ slice_index before.rows.items j

-- the tile at this index has a live cell, and is kept
pub record KeepsTile (before after : TileMap) (index : ℕ) : Type 0 where
  pub lives : IsLiveTile before.rows.items index
  pub kept : (p : Place) → slice_get before.places.keys index ≡ Some p → after.kept.keys ≡ before.kept.keys ++ p ∷ []
  pub moved : (down : ℕ) → down < 64 → slice_index after.rows.items (64 * length before.kept.keys + down) ≡ slice_index before.rows.items (64 * index + down)
  pub others : (j : ℕ) → (j < 64 * length before.kept.keys) ⊎ (64 * length before.kept.keys + 64 ≤ j) → slice_index after.rows.items j ≡ slice_index before.rows.items j

-- the tile at this index is looked at
pub record Keeps (before after : TileMap) (index : ℕ) : Type 0 where
  pub places : after.places ≡ before.places
  pub next : after.next ≡ before.next
  pub beside : after.beside ≡ before.beside
  pub awake : after.awake ≡ before.awake
  pub waking : after.waking ≡ before.waking
  pub room : after.room ≡ before.room
  pub spare : after.room ≤ length after.kept.keys + spare after.kept
  pub distinct : IsDistinct same_place before.kept.keys → IsDistinct same_place after.kept.keys
  pub long : length after.rows.items ≡ length before.rows.items
  pub either : SkipsTile before after index ⊎ KeepsTile before after index
