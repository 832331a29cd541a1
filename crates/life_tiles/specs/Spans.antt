-- Rows of tiles that may change.
use Rattle.std.specs.Prelude.{◌≡◌, ℕ, ◌+◌, ◌<◌, ◌≤◌, true, List, length, slice_index}
use Rattle.std.proofs.Common.{get_or, zero-le}
use Rattle.life_kernel.specs.Rows.{test}
use Rattle.life_tiles.specs.declared.span.Span.{Span}

-- a row is among these
pub record InSpan (s : Span) (row : ℕ) : Type 0 where
  pub from : s.from ≤ row
  pub to : row < s.to

abbrev pub no_rows : Span
no_rows = record { from = 0; to = 0; fits = zero-le }

-- the rows of the tile at an index
abbrev pub span_of : List Span → ℕ → Span
span_of spans i = get_or spans i no_rows

-- a row of the tile at an index is among its rows
abbrev pub IsAwake : List Span → ℕ → ℕ → Type 0
IsAwake spans i row = InSpan (span_of spans i) row

-- each tile keeps its rows, and may get more
pub record OnlyWakes (before after : List Span) : Type 0 where
  pub long : length after ≡ length before
  pub each : (i row : ℕ) → IsAwake before i row → IsAwake after i row

-- a row of three tiles side by side is awake, in the outer ones where the border's column changes; an index from n on is that of no tile
pub record IsRowAwake (spans : List Span) (n west here east columns row : ℕ) : Type 0 where
  pub on_west : test columns 0 ≡ true → west < n → IsAwake spans west row
  pub on_here : here < n → IsAwake spans here row
  pub on_east : test columns 63 ≡ true → east < n → IsAwake spans east row

-- these rows of three tiles side by side wake
pub record WakesRow (before after : List Span) (west here east : ℕ) (rows : Span) (columns : ℕ) : Type 0 where
  pub only : OnlyWakes before after
  pub awake : (row : ℕ) → InSpan rows row → IsRowAwake after (length before) west here east columns row

-- the rows of a tile in which something changes, and all rows beside them, wake
pub record WakesAbout (before after : List Span) (about : List ℕ) (rows : Span) (columns : ℕ) : Type 0 where
  pub only : OnlyWakes before after
  pub above : InSpan rows 0 → IsRowAwake after (length before) (slice_index about 0) (slice_index about 1) (slice_index about 2) columns 63
  pub middle : (row other : ℕ) → InSpan rows row → other < 64 → other ≤ row + 1 → row ≤ other + 1 → IsRowAwake after (length before) (slice_index about 3) (slice_index about 4) (slice_index about 5) columns other
  pub below : InSpan rows 63 → IsRowAwake after (length before) (slice_index about 6) (slice_index about 7) (slice_index about 8) columns 0
