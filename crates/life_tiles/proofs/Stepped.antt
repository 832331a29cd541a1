-- Tiles that are stepped.
use Rattle.std.proofs.Common.{◌≡◌, ℕ, zero, suc, ◌+◌, ◌*◌, ◌<◌, ◌≤◌, true, ℤ, pos, ◌+ℤ◌, ◌-ℤ◌, ◌*ℤ◌, ◌≤ℤ◌, List, length, slice_get, slice_index, Some, sym, ap, subst, ◌∙◌, arith, inl, inr}
use Rattle.std.proofs.lemmas.Bool.{cases_lt}
use Rattle.std.proofs.lemmas.Int.{ints}
use Rattle.std.specs.List.{IsDistinct}
use Rattle.life_kernel.specs.Rows.{test}
use Rattle.life_kernel.specs.Words.{part, offset, plane_of_words, row_of_words, IsNextWord}
use Rattle.life_kernel.specs.WordLaws.{part_and_offset, offset_below, next_bit_is_step}
use Rattle.life_plane.specs.Apart.{Within}
use Rattle.life_plane.specs.Plane.{step}
use Rattle.life_tiles.specs.declared.place.Place.{Place}
use Rattle.life_tiles.specs.declared.span.Span.{Span}
use Rattle.life_tiles.specs.Spans.{InSpan, IsAwake, IsRowAwake, WakesAbout}
use Rattle.life_tiles.specs.Rows.{word_about, row_about}
use Rattle.life_tiles.specs.Tiling.{place, same_place, neighbour, index_of, word_at, cells_in, AreAbout}
use Rattle.life_tiles.proofs.Beside.{beside}
use Rattle.life_tiles.proofs.Rowed.{above_word, below_word, own_word, next_along}
use Rattle.life_tiles.proofs.Tiling.{index_is, word_in_tile}

-- ---- cells of tiles

-- a cell is a bit of its tile's words
pub cell_at : (places : List Place) (rows : List ℕ) (i : ℕ) (x y : ℤ) → IsDistinct same_place places → slice_get places i ≡ Some (place (part x) (part y)) → cells_in places rows x y ≡ test (slice_index rows (64 * i + offset y)) (offset x)
unfolding plane_of_words word_at
cell_at places rows i x y distinct at = ap (λ n. test (slice_index rows (64 * n + offset y)) (offset x)) (index_is places i (place (part x) (part y)) distinct at)

-- ---- words about a tile

-- the words of one column of three tiles
column_word : (places : List Place) (rows : List ℕ) (column row : ℤ) (above here below j : ℕ) (y : ℤ) → above ≡ index_of places column (row -ℤ pos 1) → here ≡ index_of places column row → below ≡ index_of places column (row +ℤ pos 1)
    → j < 66 → y +ℤ pos 1 ≡ pos 64 *ℤ row +ℤ pos j → word_about rows above here below j ≡ word_at places rows column y
column_word places rows column row above here below zero y a h b lt e =
    let last : 63 < 64 = omega arith in
    above_word rows above here below ∙ ap (λ n. slice_index rows (64 * n + 63)) a ∙ sym (word_in_tile places rows column (row -ℤ pos 1) 63 y last (omega (arith, ints)))
column_word places rows column row above here below (suc down) y a h b lt e = elim (cases_lt down 64) [
  | inl less ↦ own_word rows above here below down less ∙ ap (λ n. slice_index rows (64 * n + down)) h ∙ sym (word_in_tile places rows column row down y less (omega (arith, ints)))
  | inr ge ↦
      let first : 0 < 64 = omega arith in
      let last : suc down ≡ 65 = omega arith in
      let begin : 64 * index_of places column (row +ℤ pos 1) + 0 ≡ 64 * index_of places column (row +ℤ pos 1) = omega arith in
      ap (word_about rows above here below) last ∙ below_word rows above here below ∙ ap (λ n. slice_index rows (64 * n)) b
      ∙ ap (slice_index rows) (sym begin) ∙ sym (word_in_tile places rows column (row +ℤ pos 1) 0 y first (omega (arith, ints)))
]

module _ (places : List Place) (about : List ℕ) (index : ℕ) (p : Place) (at : slice_get places index ≡ Some p) (are : AreAbout places index about) where
  -- the index of a tile about this one
  index_about : (direction : ℕ) (column row : ℤ) → direction < 9 → (neighbour p direction).column ≡ column → (neighbour p direction).row ≡ row → slice_index about direction ≡ index_of places column row
  index_about direction column row h c r = are.each direction p at h ∙ (λ i. index_of places (c i) (r i))

  about-0 : slice_index about 0 ≡ index_of places (p.column -ℤ pos 1) (p.row -ℤ pos 1)
  about-0 = index_about 0 (p.column -ℤ pos 1) (p.row -ℤ pos 1) (omega arith) (omega (arith, ints)) (omega (arith, ints))

  about-1 : slice_index about 1 ≡ index_of places p.column (p.row -ℤ pos 1)
  about-1 = index_about 1 p.column (p.row -ℤ pos 1) (omega arith) (omega (arith, ints)) (omega (arith, ints))

  about-2 : slice_index about 2 ≡ index_of places (p.column +ℤ pos 1) (p.row -ℤ pos 1)
  about-2 = index_about 2 (p.column +ℤ pos 1) (p.row -ℤ pos 1) (omega arith) (omega (arith, ints)) (omega (arith, ints))

  about-3 : slice_index about 3 ≡ index_of places (p.column -ℤ pos 1) p.row
  about-3 = index_about 3 (p.column -ℤ pos 1) p.row (omega arith) (omega (arith, ints)) (omega (arith, ints))

  pub about-4 : slice_index about 4 ≡ index_of places p.column p.row
  about-4 = index_about 4 p.column p.row (omega arith) (omega (arith, ints)) (omega (arith, ints))

  about-5 : slice_index about 5 ≡ index_of places (p.column +ℤ pos 1) p.row
  about-5 = index_about 5 (p.column +ℤ pos 1) p.row (omega arith) (omega (arith, ints)) (omega (arith, ints))

  about-6 : slice_index about 6 ≡ index_of places (p.column -ℤ pos 1) (p.row +ℤ pos 1)
  about-6 = index_about 6 (p.column -ℤ pos 1) (p.row +ℤ pos 1) (omega arith) (omega (arith, ints)) (omega (arith, ints))

  about-7 : slice_index about 7 ≡ index_of places p.column (p.row +ℤ pos 1)
  about-7 = index_about 7 p.column (p.row +ℤ pos 1) (omega arith) (omega (arith, ints)) (omega (arith, ints))

  about-8 : slice_index about 8 ≡ index_of places (p.column +ℤ pos 1) (p.row +ℤ pos 1)
  about-8 = index_about 8 (p.column +ℤ pos 1) (p.row +ℤ pos 1) (omega arith) (omega (arith, ints)) (omega (arith, ints))

  -- a row of words about the tile, as words of columns
  row_is : (rows : List ℕ) (j : ℕ) (y : ℤ) → j < 66 → y +ℤ pos 1 ≡ pos 64 *ℤ p.row +ℤ pos j → row_about rows about j ≡ row_of_words (word_at places rows) p.column y
  row_is rows j y h e = λ i. record {
    west = column_word places rows (p.column -ℤ pos 1) p.row (slice_index about 0) (slice_index about 3) (slice_index about 6) j y about-0 about-3 about-6 h e i;
    here = column_word places rows p.column p.row (slice_index about 1) (slice_index about 4) (slice_index about 7) j y about-1 about-4 about-7 h e i;
    east = column_word places rows (p.column +ℤ pos 1) p.row (slice_index about 2) (slice_index about 5) (slice_index about 8) j y about-2 about-5 about-8 h e i;
  }

  -- a bit of a next word is the next generation of its cell
  pub bit_stepped : (rows : List ℕ) (down k v : ℕ) (x y : ℤ) → down < 64 → k < 64 → x ≡ pos 64 *ℤ p.column +ℤ pos k → y ≡ pos 64 *ℤ p.row +ℤ pos down
      → IsNextWord (row_about rows about down) (row_about rows about (down + 1)) (row_about rows about (down + 2)) v → test v k ≡ step (cells_in places rows) x y
  bit_stepped rows down k v x y below right xs ys is =
      let next = next_along _ _ _ _ _ _ v
      (row_is rows down (y -ℤ pos 1) (omega arith) (omega (arith, ints)))
      (row_is rows (down + 1) y (omega arith) (omega (arith, ints)))
      (row_is rows (down + 2) (y +ℤ pos 1) (omega arith) (omega (arith, ints))) is in
      next.bits k right ∙ next_bit_is_step (word_at places rows) p.column y k x right xs

  -- ---- rows that wake

  -- where a row of three tiles wakes, so does that of the tile of a cell beside a cell whose column changes
  row_reaches : (spans : List Span) (n columns row : ℕ) (west here east : ℕ) (r : ℤ) (a x : ℤ) (i : ℕ) → IsDistinct same_place places → i < n → IsRowAwake spans n west here east columns row
      → west ≡ index_of places (p.column -ℤ pos 1) r → here ≡ index_of places p.column r → east ≡ index_of places (p.column +ℤ pos 1) r
      → part a ≡ p.column → test columns (offset a) ≡ true → x ≤ℤ (a +ℤ pos 1) → a ≤ℤ (x +ℤ pos 1) → slice_get places i ≡ Some (place (part x) r) → IsAwake spans i row
  row_reaches spans n columns row west here east r a x i distinct lt awake w h e column lit right left there =
      elim (beside p.column (offset a) a x (offset_below a) (part_and_offset a ∙ ap (λ c. pos 64 *ℤ c +ℤ pos (offset a)) column) right left).cases [
        | inl same ↦ let is = here_is same in subst (λ k. IsAwake spans k row) is (awake.on_here (subst (λ k. k < n) (sym is) lt))
        | inr (inl first) ↦ let is = west_is first.1 in subst (λ k. IsAwake spans k row) is (awake.on_west (ap (test columns) (sym first.0) ∙ lit) (subst (λ k. k < n) (sym is) lt))
        | inr (inr last) ↦ let is = east_is last.1 in subst (λ k. IsAwake spans k row) is (awake.on_east (ap (test columns) (sym last.0) ∙ lit) (subst (λ k. k < n) (sym is) lt))
      ]
    where
      is_at : index_of places (part x) r ≡ i
      is_at = index_is places i (place (part x) r) distinct there

      here_is : part x ≡ p.column → here ≡ i
      here_is same = h ∙ ap (λ c. index_of places c r) (sym same) ∙ is_at

      west_is : part x ≡ p.column -ℤ pos 1 → west ≡ i
      west_is same = w ∙ ap (λ c. index_of places c r) (sym same) ∙ is_at

      east_is : part x ≡ p.column +ℤ pos 1 → east ≡ i
      east_is same = e ∙ ap (λ c. index_of places c r) (sym same) ∙ is_at

  -- where a cell of the tile changes, the rows of all cells beside it wake
  pub wake_reaches : (before after : List Span) (rows : Span) (columns : ℕ) (a b x y : ℤ) (i : ℕ) → IsDistinct same_place places → length places ≤ length before → WakesAbout before after about rows columns
      → place (part a) (part b) ≡ p → InSpan rows (offset b) → test columns (offset a) ≡ true → Within (pos 1) x y a b → i < length places → slice_get places i ≡ Some (place (part x) (part y)) → IsAwake after i (offset y)
  wake_reaches before after rows columns a b x y i distinct long wakes is here lit near lt there =
      elim (beside p.row (offset b) b y (offset_below b) (part_and_offset b ∙ ap (λ r. pos 64 *ℤ r +ℤ pos (offset b)) row) near.above near.below).cases [
        | inl same ↦
            let of_row = row in
            let ys = part_and_offset y in
            let bs = part_and_offset b in
            let up : offset y ≤ offset b + 1 = (let far = near.above in omega (arith, ints)) in
            let down : offset b ≤ offset y + 1 = (let far = near.below in omega (arith, ints)) in
            row_reaches after (length before) columns (offset y) (slice_index about 3) (slice_index about 4) (slice_index about 5) p.row a x i distinct more (wakes.middle (offset b) (offset y) here (offset_below y) up down)
            about-3 about-4 about-5 column lit near.left near.right (there ∙ ap (λ r. Some (place (part x) r)) same)
        | inr (inl first) ↦
            let of_row = row in
            let ys = part_and_offset y in
            let bs = part_and_offset b in
            let top = first.0 in
            let moved = first.1 in
            let below_64 = offset_below y in
            let last : 63 ≡ offset y = (let far = near.below in omega (arith, ints)) in
            subst (IsAwake after i) last
            (row_reaches after (length before) columns 63 (slice_index about 0) (slice_index about 1) (slice_index about 2) (p.row -ℤ pos 1) a x i distinct more (wakes.above (subst (InSpan rows) first.0 here))
            about-0 about-1 about-2 column lit near.left near.right (there ∙ ap (λ r. Some (place (part x) r)) first.1))
        | inr (inr last) ↦
            let of_row = row in
            let ys = part_and_offset y in
            let bs = part_and_offset b in
            let bottom = last.0 in
            let moved = last.1 in
            let first : 0 ≡ offset y = (let far = near.above in omega (arith, ints)) in
            subst (IsAwake after i) first
            (row_reaches after (length before) columns 0 (slice_index about 6) (slice_index about 7) (slice_index about 8) (p.row +ℤ pos 1) a x i distinct more (wakes.below (subst (InSpan rows) last.0 here))
            about-6 about-7 about-8 column lit near.left near.right (there ∙ ap (λ r. Some (place (part x) r)) last.1))
      ]
    where
      more : i < length before
      more = omega arith

      row : part b ≡ p.row
      row = ap (λ (q : Place). q.row) is

      column : part a ≡ p.column
      column = ap (λ (q : Place). q.column) is
