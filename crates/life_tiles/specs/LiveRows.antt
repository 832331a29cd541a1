-- The rows of a tile that have live cells, and the box about them.
use Rattle.std.specs.Prelude.{◌≡◌, ℕ, ◌+◌, ◌-◌, ◌<◌, true, pos, ◌+ℤ◌, ◌*ℤ◌, List, slice_index}
use Rattle.std.specs.Int.{w64, leading_zeros, trailing_zeros}
use Rattle.life_cells.specs.declared.bounds.Bounds.{Bounds}
use Rattle.life_kernel.specs.Rows.{test}
use Rattle.life_tiles.specs.declared.place.Place.{Place}
use Rattle.life_tiles.specs.declared.span.Span.{Span}
use Rattle.life_tiles.specs.Spans.{InSpan}

-- a word has a live cell
pub record HasCell (word : ℕ) : Type 0 where
  pub right : ℕ
  pub within : right < 64
  pub lives : test word right ≡ true

-- the first and the last of these rows have live cells, and none of the other rows of the tile has; its words begin at this index
pub record AreLiveRows (rows : List ℕ) (first : ℕ) (s : Span) : Type 0 where
  pub dead : (down : ℕ) → down < 64 → (InSpan s down → ⊥) → slice_index rows (first + down) ≡ 0
  pub top : s.from < s.to → HasCell (slice_index rows (first + s.from))
  pub bottom : (down : ℕ) → s.from < s.to → down + 1 ≡ s.to → HasCell (slice_index rows (first + down))

-- the box about these rows of a tile, from the first to the last of these columns
abbrev pub tile_box : Place → Span → ℕ → Bounds
tile_box p s columns = record {
  left = pos 64 *ℤ p.column +ℤ pos (trailing_zeros w64 columns);
  top = pos 64 *ℤ p.row +ℤ pos s.from;
  right = pos 64 *ℤ p.column +ℤ pos (63 - leading_zeros w64 columns);
  bottom = pos 64 *ℤ p.row +ℤ pos (s.to - 1);
}
