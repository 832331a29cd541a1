-- The least box about live cells.
use Rattle.std.proofs.Common.{◌≡◌, ℕ, zero, suc, ◌+◌, ◌*◌, ◌/◌, ◌%◌, ◌^◌, ◌-◌, ◌<◌, ◌≤◌, ◌==◌, ◌≢◌, slice_index, true, false, pos, ◌+ℤ◌, ◌*ℤ◌, List, w64, refl, sym, ap, subst, ◌∙◌, arith, inl, inr}
use Rattle.std.specs.Int.{bit_at, trailing_zeros, leading_zeros}
use Rattle.std.proofs.lemmas.Bool.{cases_lt}
use Rattle.std.proofs.lemmas.Int.{ints}
use Rattle.std.proofs.lemmas.Nat.{leading_top, pow_pos}
use Rattle.std.proofs.lemmas.Nat.Bits.{bit_at-trailing_zeros, bit_at_above}
use Rattle.std.proofs.Math.Nat.{div-lt_iff_lt-mul, lt-div-mul-add}
use Rattle.life_cells.specs.Boxes.{IsLeastBox}
use Rattle.life_cells.specs.declared.bounds.Bounds.{Bounds}
use Rattle.life_cells.specs.Listed.{listed}
use Rattle.life_kernel.specs.Rows.{test}
use Rattle.life_plane.specs.Plane.{Plane, nothing, union}
use Rattle.life_tiles.specs.declared.place.Place.{Place}
use Rattle.life_tiles.specs.declared.span.Span.{Span}
use Rattle.life_tiles.specs.LiveRows.{HasCell, AreLiveRows, tile_box}
use Rattle.life_tiles.specs.Spans.{InSpan}
use Rattle.life_tiles.specs.Tiling.{tile_cells}
use Rattle.life_tiles.proofs.Bits.{dark_none}
use Rattle.life_tiles.proofs.Lists.{from_word, in_tile, from_tile}
use Rattle.life_tiles.proofs.Woken.{in_or_out}

-- ---- boxes

pub box_first : (box : Bounds) (s t : Plane) → s ≡ nothing → IsLeastBox box t → IsLeastBox box (union s t)
box_first box s t e h = subst (λ (r : Plane). IsLeastBox box (union r t)) (sym e) h

-- ---- one word

one_only : (n d : ℕ) → 0 < d → d ≤ n → n < 2 * d → n / d ≡ 1
one_only n d some low high = go (n / d) refl
  where
    less : n / d < 2
    less = (div-lt_iff_lt-mul {k = d} {x = n} {y = 2} some).1 high

    go : (q : ℕ) → n / d ≡ q → n / d ≡ 1
    go zero e = let below : n < n / d * d + d = lt-div-mul-add some in let below' : n < 0 * d + d = subst (λ q. n < q * d + d) e below in absurd (omega arith)
    go (suc zero) e = e
    go (suc (suc q)) e = let few = less in absurd (omega arith)

pow_double : (j : ℕ) → 2 ^ suc j ≡ 2 * 2 ^ j
pow_double j = grind arith

set_at : (w k : ℕ) → bit_at w k ≡ 1 → test w k ≡ true
unfolding test
set_at w k h = ap (λ n. n == 1) h

is_set : (w k : ℕ) → test w k ≡ true → bit_at w k ≡ 0 → ⊥
unfolding test
is_set w k h z = let dark : (bit_at w k == 1) ≡ false = ap (λ n. n == 1) z in cc

-- the first and the last bit of a word
record FirstAndLast (w : ℕ) : Type 0 where
  first : test w (trailing_zeros w64 w) ≡ true
  last : test w (63 - leading_zeros w64 w) ≡ true
  first_within : trailing_zeros w64 w < 64
  last_within : 63 - leading_zeros w64 w < 64
  above : (k : ℕ) → test w k ≡ true → trailing_zeros w64 w ≤ k
  below : (k : ℕ) → test w k ≡ true → k ≤ 63 - leading_zeros w64 w

first_and_last : (w : ℕ) → 0 < w → w < 2 ^ 64 → FirstAndLast w
first_and_last w some fits =
    let low = bit_at-trailing_zeros w64 w some fits in
    let top = leading_top 64 w some fits in
    let j : 63 - leading_zeros w64 w ≡ top.0 = (let sum = top.1 in omega arith) in
    let digit : w / 2 ^ top.0 ≡ 1 = one_only w (2 ^ top.0) (pow_pos top.0) top.2 (let less = top.3 in omega (arith, pow_double top.0)) in
    record {
      first = set_at w _ low.1;
      last = set_at w _ (ap (bit_at w) j ∙ ap (λ q. q % 2) digit);
      first_within = low.0;
      last_within = omega arith;
      above = λ k h. elim (cases_lt k (trailing_zeros w64 w)) [ inl lt ↦ absurd (is_set w k h (low.2 k lt)) | inr ge ↦ ge ];
      below = λ k h. elim (cases_lt (63 - leading_zeros w64 w) k) [ inl lt ↦ absurd (is_set w k h (bit_at_above w (suc top.0) k top.3 (omega arith))) | inr ge ↦ ge ];
    }

-- a word that is not 0 has a live cell
pub has_cell : (w : ℕ) → w ≢ 0 → w < 2 ^ 64 → HasCell w
has_cell w other fits =
    let some : 0 < w = omega arith in
    let first = bit_at-trailing_zeros w64 w some fits in
    record { right = trailing_zeros w64 w; within = first.0; lives = set_at w _ first.1 }

-- ---- the rows of a tile

module _ (p : Place) (rows : List ℕ) (first : ℕ) (s : Span) (live : AreLiveRows rows first s) where
  -- a live cell lies in one of the rows
  pub row_within : (down k : ℕ) → down < 64 → test (slice_index rows (first + down)) k ≡ true → InSpan s down
  row_within down k below h = elim (in_or_out s down) [ inl inside ↦ inside | inr out ↦ absurd (dark_none _ k (live.dead down below out) h) ]

  module _ (columns : ℕ) (other : columns ≢ 0) (fits : columns < 2 ^ 64)
      (all : (j k : ℕ) → first ≤ j → j < first + 64 → test (slice_index rows j) k ≡ true → test columns k ≡ true)
      (each : (k : ℕ) → test columns k ≡ true → (j : ℕ) × (first ≤ j) × (j < first + 64) × (test (slice_index rows j) k ≡ true)) where
    -- a row with a live cell in this column
    row_of : (k : ℕ) → test columns k ≡ true → (down : ℕ) × (down < 64) × (test (slice_index rows (first + down)) k ≡ true)
    row_of k h =
        let found = each k h in
        let low = found.1 in
        let high = found.2 in
        let is : first + (found.0 - first) ≡ found.0 = omega arith in
        (found.0 - first, omega arith, ap (λ j. test (slice_index rows j) k) is ∙ found.3)

    -- where some column has a live cell there are rows
    pub some_row : s.from < s.to
    some_row =
        let c = has_cell columns other fits in
        let row = row_of c.right c.lives in
        let i = row_within row.0 c.right row.1 row.2 in
        let from = i.from in
        let to = i.to in
        omega arith

    -- the cell in this row and column
    at : (down k : ℕ) → down < 64 → k < 64 → test (slice_index rows (first + down)) k ≡ true → listed (tile_cells p rows first 64) (pos 64 *ℤ p.column +ℤ pos k) (pos 64 *ℤ p.row +ℤ pos down) ≡ true
    at down k below within h = from_tile p rows first 64 down _ _ below (from_word p down (slice_index rows (first + down)) 64 k within h)

    pub tile_least : IsLeastBox (tile_box p s columns) (listed (tile_cells p rows first 64))
    tile_least =
        let fit = s.fits in
        let some = some_row in
        let bits = first_and_last columns (omega arith) fits in
        let low = trailing_zeros w64 columns in
        let high = 63 - leading_zeros w64 columns in
        let first_row = live.top some in
        let end : (s.to - 1) + 1 ≡ s.to = omega arith in
        let last_row = live.bottom (s.to - 1) some end in
        let west = row_of low bits.first in
        let east = row_of high bits.last in
        let at_top = at s.from first_row.right (omega arith) first_row.within first_row.lives in
        let at_bottom = at (s.to - 1) last_row.right (omega arith) last_row.within last_row.lives in
        let at_left = at west.0 low west.1 bits.first_within west.2 in
        let at_right = at east.0 high east.1 bits.last_within east.2 in
        record {
          holds = record {
            each = λ x y h.
                let t = in_tile p rows first 64 x y h in
                let i = row_within t.down t.cell.right t.below t.cell.lives in
                let from = i.from in
                let to = i.to in
                let below = t.below in
                let lit = all (first + t.down) t.cell.right (omega arith) (omega arith) t.cell.lives in
                let a = bits.above t.cell.right lit in
                let b = bits.below t.cell.right lit in
                let column = t.cell.column in
                let row = t.cell.row in
                record { right_of_left = omega (arith, ints); below_top = omega (arith, ints); left_of_right = omega (arith, ints); above_bottom = omega (arith, ints) };
          };
          least = λ other k. record { left = (k.each _ _ at_left).right_of_left; top = (k.each _ _ at_top).below_top; right = (k.each _ _ at_right).left_of_right; bottom = (k.each _ _ at_bottom).above_bottom };
          lives = (_, (_, at_top));
        }
