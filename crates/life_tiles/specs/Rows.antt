-- The words about a tile, and its rows that are stepped.
use Rattle.std.specs.Prelude.{◌≡◌, ◌⊎◌, ℕ, zero, suc, ◌+◌, ◌*◌, ◌<◌, ◌≤◌, cond, nat_eq, List, length, slice_index, bit_xor}
use Rattle.life_kernel.specs.declared.row.Row.{Row}
use Rattle.life_kernel.specs.Words.{IsNextWord}

-- A word of a tile, with the lowest word of the tile above before its own and the highest of the tile below behind them; the tiles are
-- given by their indices.
unfoldable pub word_about : List ℕ → ℕ → ℕ → ℕ → ℕ → ℕ
word_about rows above here below zero = slice_index rows (64 * above + 63)
word_about rows above here below (suc down) = cond (nat_eq down 64) (slice_index rows (64 * below)) (slice_index rows (64 * here + down))

-- the words of a tile's row and those beside it, counted from the row above the tile; the tiles about it are given by their indices
abbrev pub row_about : List ℕ → List ℕ → ℕ → Row
row_about rows about at = record {
  west = word_about rows (slice_index about 0) (slice_index about 3) (slice_index about 6) at;
  here = word_about rows (slice_index about 1) (slice_index about 4) (slice_index about 7) at;
  east = word_about rows (slice_index about 2) (slice_index about 5) (slice_index about 8) at;
}

-- there are words for each of the tiles at these indices
pub record HaveWords (about rows : List ℕ) : Type 0 where
  pub each : (direction : ℕ) → direction < 9 → 64 * slice_index about direction + 64 ≤ length rows

-- and in `next` for the middle one
pub record HasAbout (about rows next : List ℕ) : Type 0 where
  pub have : HaveWords about rows
  pub room : 64 * slice_index about 4 + 64 ≤ length next

-- the rows of a tile from one up to another are stepped, and what is other there than before is told
pub record FillsRows (rows about before after old_changes changes : List ℕ) (from to : ℕ) : Type 0 where
  pub inside : (down : ℕ) → from ≤ down → down < to → IsNextWord (row_about rows about down) (row_about rows about (down + 1)) (row_about rows about (down + 2)) (slice_index after (64 * slice_index about 4 + down))
  pub changed : (down : ℕ) → from ≤ down → down < to → slice_index changes down ≡ bit_xor (slice_index before (64 * slice_index about 4 + down)) (slice_index after (64 * slice_index about 4 + down))
  pub outside : (j : ℕ) → (j < 64 * slice_index about 4 + from) ⊎ (64 * slice_index about 4 + to ≤ j) → slice_index after j ≡ slice_index before j
  pub long : length changes ≡ length old_changes
  pub others : (down : ℕ) → (down < from) ⊎ (to ≤ down) → slice_index changes down ≡ slice_index old_changes down
