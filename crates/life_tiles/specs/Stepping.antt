-- How tiles are stepped, and which rows may be left out.
use Rattle.std.specs.Prelude.{◌≡◌, ◌≢◌, ◌⊎◌, true, ℕ, ◌+◌, ◌*◌, ◌<◌, ◌≤◌, ℤ, pos, List, Some, slice_get, slice_index, length}
use Rattle.std.specs.List.{IsDistinct}
use Rattle.life_kernel.specs.Words.{part, offset}
use Rattle.life_plane.specs.Apart.{Within}
use Rattle.life_plane.specs.Plane.{step}
use Rattle.life_tiles.specs.declared.place.Place.{Place}
use Rattle.life_tiles.specs.declared.span.Span.{Span}
use Rattle.life_tiles.specs.declared.tile_map.TileMap.{TileMap}
use Rattle.life_tiles.specs.Spans.{IsAwake, OnlyWakes, span_of}
use Rattle.life_tiles.specs.Tiling.{place, same_place, cells_in, cells_of, cells_before, HasTile, IsLong, AreLinked, IsClosed, IsQuiet}

-- a cell lies in the tile at this index, in a row that is not awake
pub record IsAsleep (places : List Place) (awake : List Span) (i : ℕ) (x y : ℤ) : Type 0 where
  pub at : slice_get places i ≡ Some (place (part x) (part y))
  pub asleep : IsAwake awake i (offset y) → ⊥

-- The past is kept, and tells what may be left out: the cells of rows that are not awake become what they were, and there are tiles about
-- those that live.
pub record IsSettled (m : TileMap) : Type 0 where
  pub rested : (i : ℕ) (x y : ℤ) → IsAsleep m.places.keys m.awake.items i x y → cells_before m x y ≡ step (cells_of m) x y
  pub recent : m.recent ≡ true → cells_of m ≡ step (cells_before m)
  pub closed : (i : ℕ) (x y a b : ℤ) → IsAsleep m.places.keys m.awake.items i x y → cells_of m x y ≡ true → Within (pos 1) x y a b → HasTile m.places.keys (part a) (part b)
  pub was_closed : m.recent ≡ true → IsClosed m.places.keys (cells_before m)
  pub quiet : IsQuiet m

-- all rows are awake
pub record IsFresh (m : TileMap) : Type 0 where
  pub awake : (i row : ℕ) → i < length m.places.keys → row < 64 → IsAwake m.awake.items i row
  pub quiet : IsQuiet m

-- where tiles lie, and their words
pub record IsGrid (places : List Place) (rows beside : List ℕ) : Type 0 where
  pub distinct : IsDistinct same_place places
  pub long : IsLong (length places) rows
  pub room : 64 * length places + 64 ≤ length rows
  pub links : AreLinked places beside
  pub all_links : 9 * length places ≤ length beside

-- a tile is stepped: `next` has the next generation of its cells
pub record IsSteppedTile (places : List Place) (rows next : List ℕ) (i : ℕ) : Type 0 where
  pub each : (x y : ℤ) → slice_get places i ≡ Some (place (part x) (part y)) → cells_in places next x y ≡ step (cells_in places rows) x y

-- a cell of the tile at index j is other than before only if all rows beside it are awake
pub record IsMarkedTile (places : List Place) (before after : List ℕ) (waking : List Span) (j : ℕ) : Type 0 where
  pub each : (i : ℕ) (x y a b : ℤ) → slice_get places j ≡ Some (place (part a) (part b)) → IsAsleep places waking i x y → Within (pos 1) x y a b → cells_in places after a b ≡ cells_in places before a b

-- the tile at this index is stepped, its rows are put to sleep, and where something changes rows wake for the step after
pub record FillsTile (places : List Place) (rows before after : List ℕ) (awake_before awake_after waking_before waking_after : List Span) (index : ℕ) : Type 0 where
  pub long : length after ≡ length before
  pub outside : (j : ℕ) → (j < 64 * index) ⊎ (64 * index + 64 ≤ j) → slice_index after j ≡ slice_index before j
  pub stepped : IsSteppedTile places rows after index
  pub awake_long : length awake_after ≡ length awake_before
  pub others : (i : ℕ) → i ≢ index → span_of awake_after i ≡ span_of awake_before i
  pub asleep : (row : ℕ) → IsAwake awake_after index row → ⊥
  pub wakes : OnlyWakes waking_before waking_after
  pub marked : IsMarkedTile places before after waking_after index

-- all tiles are
pub record FillsAll (places : List Place) (rows before after : List ℕ) (awake_before awake_after waking_before waking_after : List Span) : Type 0 where
  pub long : length after ≡ length before
  pub outside : (j : ℕ) → 64 * length places ≤ j → slice_index after j ≡ slice_index before j
  pub stepped : (i : ℕ) → i < length places → IsSteppedTile places rows after i
  pub awake_long : length awake_after ≡ length awake_before
  pub asleep : (i row : ℕ) → i < length places → IsAwake awake_after i row → ⊥
  pub wakes : OnlyWakes waking_before waking_after
  pub marked : (j : ℕ) → j < length places → IsMarkedTile places before after waking_after j
