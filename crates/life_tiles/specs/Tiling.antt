-- How a set of cells lies in tiles: aligned squares of 64 by 64 cells, of which each row is a word.
use Rattle.std.specs.Prelude.{min, ◌/◌, ◌%◌, ◌-◌, ◌≡◌, ◌≢◌, ◌≤ℤ◌, neg_ℤ, ◌-ℤ◌, true, Bool, ◌&&◌, ℕ, suc, zero, ◌+◌, ◌*◌, ◌<◌, ◌≤◌, ◌^◌, ℤ, pos, ◌+ℤ◌, ◌*ℤ◌, List, [], ◌∷◌, ◌++◌, cond, Some, slice_get, slice_index, length}
use Rattle.std.specs.List.{position_or_len, IsDistinct}
use Rattle.std.specs.Ordering.{int_eq}
use Rattle.std.proofs.Common.{get_or}
use Rattle.indexmap.specs.IndexSet.{IndexSet, spare}
use Rattle.life_cells.specs.declared.cell.Cell.{Cell}
use Rattle.life_cells.specs.Cells.{cell, Cells, from_list}
use Rattle.life_kernel.specs.Rows.{test}
use Rattle.life_kernel.specs.Words.{Words, part, offset, plane_of_words}
use Rattle.life_plane.specs.Plane.{Plane}
use Rattle.life_plane.specs.Apart.{Within}
use Rattle.life_tiles.specs.declared.place.Place.{Place}
use Rattle.life_tiles.specs.declared.tile_map.TileMap.{TileMap}
use Rattle.life_tiles.specs.Spans.{IsAwake}

-- ---- places

abbrev pub place : ℤ → ℤ → Place
place column row = record { row = row; column = column }

abbrev pub same_place : Place → Place → Bool
same_place p q = int_eq p.row q.row && int_eq p.column q.column

-- the index of the tile at a place; how many there are, where it is not among them
abbrev pub index_of : List Place → ℤ → ℤ → ℕ
index_of places column row = position_or_len (same_place (place column row)) places

-- the place in a direction: row by row from the north-west, 4 being the place itself
abbrev pub neighbour : Place → ℕ → Place
neighbour p direction = place ((p.column +ℤ pos (direction % 3)) -ℤ pos 1) ((p.row +ℤ pos (direction / 3)) -ℤ pos 1)

-- there is a tile at this place
pub record HasTile (places : List Place) (column row : ℤ) : Type 0 where
  pub index : ℕ
  pub at : slice_get places index ≡ Some (place column row)

-- there is a tile in this direction of a place
abbrev pub HasNeighbour : List Place → Place → ℕ → Type 0
HasNeighbour places p direction = HasTile places (neighbour p direction).column (neighbour p direction).row

-- a place at most n columns and rows from the middle
pub record IsWithin (n : ℕ) (p : Place) : Type 0 where
  pub left : neg_ℤ (pos n) ≤ℤ p.column
  pub right : p.column ≤ℤ pos n
  pub top : neg_ℤ (pos n) ≤ℤ p.row
  pub bottom : p.row ≤ℤ pos n

-- each place is near the middle
pub record AreNear (places : List Place) : Type 0 where
  pub each : (i : ℕ) (p : Place) → slice_get places i ≡ Some p → IsWithin (2 ^ 56) p

-- ---- links

-- a link tells the index of the tile at a place; where there is none, it is past all indices
pub record IsLink (places : List Place) (p : Place) (link : ℕ) : Type 0 where
  pub index : min link (length places) ≡ index_of places p.column p.row
  pub far : length places ≤ link → link ≡ 2 ^ 64 - 1

-- each tile has a link to each tile about it
pub record AreLinked (places : List Place) (beside : List ℕ) : Type 0 where
  pub each : (i direction : ℕ) (p : Place) → slice_get places i ≡ Some p → direction < 9 → IsLink places (neighbour p direction) (slice_index beside (9 * i + direction))

-- the indices of the tiles about the one at this index, as many as there are tiles where there is none
pub record AreAbout (places : List Place) (index : ℕ) (about : List ℕ) : Type 0 where
  pub each : (direction : ℕ) (p : Place) → slice_get places index ≡ Some p → direction < 9 → slice_index about direction ≡ index_of places (neighbour p direction).column (neighbour p direction).row

-- no link that is right becomes wrong
pub record KeepsLinks (places : List Place) (before after : List ℕ) : Type 0 where
  pub long : length after ≡ length before
  pub each : (i direction : ℕ) (p : Place) → slice_get places i ≡ Some p → direction < 9
      → IsLink places (neighbour p direction) (slice_index before (9 * i + direction)) → IsLink places (neighbour p direction) (slice_index after (9 * i + direction))

-- in this direction the tile at this index has a link to the tile beside it, and that tile one back
pub record LinksAt (places : List Place) (before after : List ℕ) (index direction : ℕ) : Type 0 where
  pub keeps : KeepsLinks places before after
  pub own : (p : Place) → slice_get places index ≡ Some p → IsLink places (neighbour p direction) (slice_index after (9 * index + direction))
  pub back : (i : ℕ) (p q : Place) → slice_get places index ≡ Some p → slice_get places i ≡ Some q → neighbour p direction ≡ q → IsLink places p (slice_index after (9 * i + (8 - direction)))

-- in all directions before this one
pub record LinksTo (places : List Place) (before after : List ℕ) (index directions : ℕ) : Type 0 where
  pub keeps : KeepsLinks places before after
  pub own : (direction : ℕ) (p : Place) → direction < directions → slice_get places index ≡ Some p → IsLink places (neighbour p direction) (slice_index after (9 * index + direction))
  pub back : (direction i : ℕ) (p q : Place) → direction < directions → slice_get places index ≡ Some p → slice_get places i ≡ Some q → neighbour p direction ≡ q → IsLink places p (slice_index after (9 * i + (8 - direction)))

-- ---- words

-- the word in a column of words and a row of cells; 0 where there is no tile
unfoldable pub word_at : List Place → List ℕ → Words
word_at places rows column y = slice_index rows (64 * index_of places column (part y) + offset y)

abbrev pub words_of : TileMap → Words
words_of m = word_at m.places.keys m.rows.items

-- the live cells that words of tiles tell
abbrev pub cells_in : List Place → List ℕ → Plane
cells_in places rows = plane_of_words (word_at places rows)

abbrev pub cells_of : TileMap → Plane
cells_of m = cells_in m.places.keys m.rows.items

-- those of a generation ago, once a step was made
abbrev pub cells_before : TileMap → Plane
cells_before m = cells_in m.places.keys m.next.items

-- words for so many tiles, and 0 behind them
pub record IsLong (tiles : ℕ) (rows : List ℕ) : Type 0 where
  pub long : 64 * tiles ≤ length rows
  pub ends : (j : ℕ) → 64 * tiles ≤ j → slice_index rows j ≡ 0

-- there is memory for as many tiles as are told
pub record HasRoom (m : TileMap) : Type 0 where
  pub few : length m.places.keys ≤ m.room
  pub places : m.room ≤ length m.places.keys + spare m.places
  pub kept : m.room ≤ length m.kept.keys + spare m.kept
  pub rows : 64 * m.room + 64 ≤ length m.rows.items
  pub next : 64 * m.room + 64 ≤ length m.next.items
  pub beside : 9 * m.room ≤ length m.beside.items
  pub awake : m.room ≤ length m.awake.items
  pub waking : m.room ≤ length m.waking.items

-- some zeros more, and the others as they were
pub record OnlyAppends (before after : List ℕ) : Type 0 where
  pub read : (j : ℕ) → slice_index after j ≡ slice_index before j
  pub longer : length before ≤ length after

-- the items that were stay, and there may be more
pub record KeepsItems {A : Type 0} (before after : List A) (default : A) : Type 0 where
  pub each : (j : ℕ) → j < length before → get_or after j default ≡ get_or before j default
  pub longer : length before ≤ length after

-- the places stay, and there is room for as many more at least
pub record KeepsPlaces {S : Type 0} (before after : IndexSet Place S) : Type 0 where
  pub keys : after.keys ≡ before.keys
  pub room : spare before ≤ spare after

-- what holds of tiles between two calls
pub record IsTiled (m : TileMap) : Type 0 where
  pub distinct : IsDistinct same_place m.places.keys
  pub rows : IsLong (length m.places.keys) m.rows.items
  pub next : IsLong (length m.places.keys) m.next.items
  pub near : AreNear m.places.keys
  pub links : AreLinked m.places.keys m.beside.items
  pub room : HasRoom m
  pub none : m.kept.keys ≡ []

-- ---- the set of the live cells

-- the live cells among the first n of a word, which lies so far down in its tile
unfoldable pub word_cells : Place → ℕ → ℕ → ℕ → List Cell
word_cells p down word zero = []
word_cells p down word (suc right) = word_cells p down word right ++ cond (test word right) (cell (pos 64 *ℤ p.column +ℤ pos right) (pos 64 *ℤ p.row +ℤ pos down) ∷ []) []

-- those in the first n rows of a tile, of which the words begin at this index
unfoldable pub tile_cells : Place → List ℕ → ℕ → ℕ → List Cell
tile_cells p rows first zero = []
tile_cells p rows first (suc down) = tile_cells p rows first down ++ word_cells p down (slice_index rows (first + down)) 64

-- those in the first n tiles
unfoldable pub list_cells : List Place → List ℕ → ℕ → List Cell
list_cells places rows zero = []
list_cells places rows (suc index) = list_cells places rows index ++ tile_cells (get_or places index (place (pos 0) (pos 0))) rows (64 * index) 64

-- the live cells as a set
unfoldable pub set_of : TileMap → Cells
set_of m = from_list (list_cells m.places.keys m.rows.items (length m.places.keys))

-- no row is marked for the step after
pub record IsQuiet (m : TileMap) : Type 0 where
  pub each : (i row : ℕ) → i < length m.places.keys → IsAwake m.waking.items i row → ⊥

-- the second has the tiles of the first at their indices, maybe more, and the same live cells; all rows of a new tile are awake
pub record OnlyMakes (before after : TileMap) : Type 0 where
  pub tiled : IsTiled after
  pub words : words_of after ≡ words_of before
  pub lasts : cells_before after ≡ cells_before before
  pub recent : after.recent ≡ before.recent
  pub room : before.room ≤ after.room
  pub keeps : (i : ℕ) (p : Place) → slice_get before.places.keys i ≡ Some p → slice_get after.places.keys i ≡ Some p
  pub awake : (i row : ℕ) → i < length before.places.keys → IsAwake before.awake.items i row → IsAwake after.awake.items i row
  pub fresh : (i row : ℕ) → length before.places.keys ≤ i → i < length after.places.keys → row < 64 → IsAwake after.awake.items i row
  pub quiet : IsQuiet before → IsQuiet after

-- there is a tile about each live cell and each of its neighbours
pub record IsClosed (places : List Place) (cells : Plane) : Type 0 where
  pub about : (x y a b : ℤ) → cells x y ≡ true → Within (pos 1) x y a b → HasTile places (part a) (part b)

-- the second has a tile about each neighbour of a live cell of the first that lies in an awake row of the tile at this index
pub record IsSurrounded (before after : TileMap) (index : ℕ) : Type 0 where
  pub about : (x y a b : ℤ) → slice_get before.places.keys index ≡ Some (place (part x) (part y)) → IsAwake before.awake.items index (offset y) → cells_of before x y ≡ true → Within (pos 1) x y a b
      → HasTile after.places.keys (part a) (part b)

-- two lists have different words of 64 bits at some index from low up to high
pub record Differ (rows next : List ℕ) (low high : ℕ) : Type 0 where
  pub at : ℕ
  pub from : low ≤ at
  pub within : at < high
  pub was_fits : slice_index rows at < 2 ^ 64
  pub now_fits : slice_index next at < 2 ^ 64
  pub other : slice_index rows at ≢ slice_index next at

-- two lists have the same words from low up to high
pub record AreSame (rows next : List ℕ) (low high : ℕ) : Type 0 where
  pub each : (at : ℕ) → low ≤ at → at < high → slice_index next at ≡ slice_index rows at

-- the words of the tile at this index have no live cell
pub record IsEmptyTile (rows : List ℕ) (index : ℕ) : Type 0 where
  pub words : (down : ℕ) → down < 64 → slice_index rows (64 * index + down) ≡ 0

-- they have one
pub record IsLiveTile (rows : List ℕ) (index : ℕ) : Type 0 where
  pub down : ℕ
  pub right : ℕ
  pub below : down < 64
  pub within : right < 64
  pub lives : test (slice_index rows (64 * index + down)) right ≡ true
