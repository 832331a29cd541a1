-- The lists of live cells of words and tiles.
use Rattle.std.proofs.Common.{◌≡◌, ◌⊎◌, ℕ, zero, suc, ◌+◌, ◌*◌, ◌/◌, ◌^◌, ◌<◌, ◌≤◌, ◌==◌, eqb, Bool, true, false, cond, ℤ, pos, neg_ℤ, ◌+ℤ◌, ◌*ℤ◌, ◌≤ℤ◌, List, [], ◌∷◌, ◌++◌, length, get_or, slice_index, w64, to_z, of_z, refl, sym, ap, ap₂, ◌∙◌, arith, inl, inr}
use Rattle.std.proofs.Common.{zero-add}
use Rattle.std.specs.Int.{bit_at, trailing_zeros, leading_zeros}
use Rattle.std.proofs.lemmas.Bool.{cases_lt}
use Rattle.std.proofs.lemmas.Int.{ints}
use Rattle.std.proofs.lemmas.List.{append_assoc, append-nil}
use Rattle.std.proofs.lemmas.Nat.Bits.{shr_and_one, bit_at-zero, bit_at_above, bit_at-trailing_zeros}
use Rattle.std.proofs.lemmas.Nat.{leading_top}
use Rattle.std.proofs.lemmas.Option.{slice_get-get_or, get_or_from_slice_get}
use lib.Bits.{bit_and}
use Rattle.life_cells.specs.declared.cell.Cell.{Cell}
use Rattle.life_cells.specs.Cells.{cell, alive}
use Rattle.life_cells.specs.Laws.{alive-from_list, listed-append_at, same_cells}
use Rattle.life_cells.specs.Listed.{same_cell, listed}
use Rattle.life_cells.specs.OrderLaws.{same_cell_is, same_cell-itself}
use Rattle.std.proofs.lemmas.Bool.{or_cases, or_left, or_right}
use Rattle.life_kernel.specs.Rows.{test}
use Rattle.life_kernel.specs.Words.{part, offset, plane_of_words}
use Rattle.life_kernel.specs.WordLaws.{part_is, offset_is, part_and_offset, offset_below}
use Rattle.life_plane.specs.Plane.{same_plane}
use Rattle.life_tiles.specs.declared.place.Place.{Place}
use Rattle.life_tiles.specs.declared.tile_map.TileMap.{TileMap}
use Rattle.life_tiles.specs.Tiling.{place, index_of, IsTiled, word_at, cells_of, word_cells, tile_cells, list_cells, set_of}
use Rattle.life_tiles.proofs.Bits.{no_bit, dark_none}
use Rattle.life_tiles.proofs.Tiling.{index_is, tile_at_index, live_index, word_in_tile}

-- ---- step by step

-- a number from 64 bits on, as code computes it
pub cast_is : (z : ℤ) (k : ℕ) → neg_ℤ (pos (2 ^ 56)) ≤ℤ z → z ≤ℤ pos (2 ^ 56) → k < 64
    → to_z w64 (of_z w64 (to_z w64 (of_z w64 (pos 64 *ℤ to_z w64 (of_z w64 z))) +ℤ to_z w64 k)) ≡ pos 64 *ℤ z +ℤ pos k
cast_is z k low high h = omega (arith, ints)

-- what is appended to a list that grew already
pub appended : (new old first done piece : List Cell) → new ≡ old ++ piece → old ≡ first ++ done → new ≡ first ++ (done ++ piece)
appended new old first done piece e f = e ∙ ap (λ xs. xs ++ piece) f ∙ append_assoc first done piece

pub nothing_appended : (first : List Cell) → first ≡ first ++ []
nothing_appended first = sym (append-nil first)

pub bit_read : (word right : ℕ) → eqb (bit_and (word / 2 ^ right) 1) 1 ≡ test word right
unfolding test
bit_read word right = ap (λ n. n == 1) (shr_and_one word right)

pub word_none : (p : Place) (down word : ℕ) → word_cells p down word 0 ≡ []
unfolding word_cells
word_none p down word = refl

pub word_more : (p : Place) (down word right : ℕ) → word_cells p down word (right + 1) ≡ word_cells p down word right ++ cond (test word right) (cell (pos 64 *ℤ p.column +ℤ pos right) (pos 64 *ℤ p.row +ℤ pos down) ∷ []) []
unfolding word_cells
word_more p down word right = let next : right + 1 ≡ suc right = omega arith in ap (word_cells p down word) next

-- where no cell lives, none is listed
pub none_first : (p : Place) (down word n : ℕ) → ((k : ℕ) → k < n → test word k ≡ false) → word_cells p down word n ≡ []
unfolding word_cells
none_first p down word zero dark = refl
none_first p down word (suc n) dark =
    ap (λ b. word_cells p down word n ++ cond b (cell (pos 64 *ℤ p.column +ℤ pos n) (pos 64 *ℤ p.row +ℤ pos down) ∷ []) []) (dark n (omega arith))
    ∙ append-nil (word_cells p down word n) ∙ none_first p down word n (λ k h. dark k (omega arith))

pub none_last : (p : Place) (down word m n : ℕ) → ((k : ℕ) → m ≤ k → test word k ≡ false) → word_cells p down word (n + m) ≡ word_cells p down word m
none_last p down word m zero dark = ap (word_cells p down word) (zero-add m)
none_last p down word m (suc n) dark =
    let next : suc n + m ≡ n + m + 1 = omega arith in
    ap (word_cells p down word) next ∙ word_more p down word (n + m)
    ∙ ap (λ b. word_cells p down word (n + m) ++ cond b (cell (pos 64 *ℤ p.column +ℤ pos (n + m)) (pos 64 *ℤ p.row +ℤ pos down) ∷ []) []) (dark (n + m) (omega arith))
    ∙ append-nil (word_cells p down word (n + m)) ∙ none_last p down word m n dark

dark_bit : (word k : ℕ) → bit_at word k ≡ 0 → test word k ≡ false
unfolding test
dark_bit word k e = ap (λ n. n == 1) e

pub empty_word : (p : Place) (down word : ℕ) → word ≡ 0 → word_cells p down word 64 ≡ []
empty_word p down word none = none_first p down word 64 (λ k h. dark_bit word k (ap (λ n. bit_at n k) none ∙ bit_at-zero k))

pub first_cells : (p : Place) (down word : ℕ) → 0 < word → word < 2 ^ 64 → word_cells p down word (trailing_zeros w64 word) ≡ []
first_cells p down word some fits = none_first p down word (trailing_zeros w64 word) (λ k h. dark_bit word k ((bit_at-trailing_zeros w64 word some fits).2 k h))

pub last_cells : (p : Place) (down word end : ℕ) → 0 < word → word < 2 ^ 64 → end + leading_zeros w64 word ≡ 64 → word_cells p down word 64 ≡ word_cells p down word end
last_cells p down word end some fits is =
    let top = leading_top 64 word some fits in
    let past : end ≡ suc top.0 = (let sum = top.1 in omega arith) in
    let all : leading_zeros w64 word + end ≡ 64 = omega arith in
    ap (word_cells p down word) (sym all)
    ∙ none_last p down word end (leading_zeros w64 word) (λ k h. dark_bit word k (bit_at_above word (suc top.0) k top.3 (omega arith)))

-- the first live cell of a word is not past the last
pub first_before_end : (word : ℕ) → 0 < word → word < 2 ^ 64 → trailing_zeros w64 word + leading_zeros w64 word ≤ 64
first_before_end word some fits =
    let top = leading_top 64 word some fits in
    let first = bit_at-trailing_zeros w64 word some fits in
    let sum = top.1 in
    elim (cases_lt top.0 (trailing_zeros w64 word)) [
      | inl lt ↦
          let none : bit_at word (trailing_zeros w64 word) ≡ 0 = bit_at_above word (suc top.0) (trailing_zeros w64 word) top.3 (omega arith) in
          let one : bit_at word (trailing_zeros w64 word) ≡ 1 = first.1 in
          let both : ◌≡◌ {A = ℕ} 1 0 = sym one ∙ none in
          absurd (omega arith)
      | inr ge ↦ omega arith
    ]

pub tile_none : (p : Place) (rows : List ℕ) (first : ℕ) → tile_cells p rows first 0 ≡ []
unfolding tile_cells
tile_none p rows first = refl

pub tile_more : (p : Place) (rows : List ℕ) (first down : ℕ) → tile_cells p rows first (down + 1) ≡ tile_cells p rows first down ++ word_cells p down (slice_index rows (first + down)) 64
unfolding tile_cells
tile_more p rows first down = let next : down + 1 ≡ suc down = omega arith in ap (tile_cells p rows first) next

-- where no row has a live cell there is none
tile_dark : (p : Place) (rows : List ℕ) (first n : ℕ) → ((down : ℕ) → down < n → slice_index rows (first + down) ≡ 0) → tile_cells p rows first n ≡ []
unfolding tile_cells
tile_dark p rows first zero dark = refl
tile_dark p rows first (suc n) dark = ap₂ (λ xs ys. xs ++ ys) (tile_dark p rows first n (λ down h. dark down (omega arith))) (empty_word p n _ (dark n (omega arith)))

-- nor where no column has one
pub no_columns : (p : Place) (rows : List ℕ) (first columns : ℕ) → ((j k : ℕ) → first ≤ j → j < first + 64 → test (slice_index rows j) k ≡ true → test columns k ≡ true) → columns ≡ 0 → tile_cells p rows first 64 ≡ []
no_columns p rows first columns all none = tile_dark p rows first 64 (λ down h. no_bit _ (λ k live. dark_none columns k none (all (first + down) k (omega arith) (omega arith) live)))

pub list_none : (places : List Place) (rows : List ℕ) → list_cells places rows 0 ≡ []
unfolding list_cells
list_none places rows = refl

pub list_more : (places : List Place) (rows : List ℕ) (index : ℕ) → list_cells places rows (index + 1) ≡ list_cells places rows index ++ tile_cells (get_or places index (place (pos 0) (pos 0))) rows (64 * index) 64
unfolding list_cells
list_more places rows index = let next : index + 1 ≡ suc index = omega arith in ap (list_cells places rows) next

-- ---- what is listed

left_listed : (cs ds : List Cell) (x y : ℤ) → listed cs x y ≡ true → listed (cs ++ ds) x y ≡ true
left_listed cs ds x y h = listed-append_at cs ds x y ∙ or_left _ _ h

right_listed : (cs ds : List Cell) (x y : ℤ) → listed ds x y ≡ true → listed (cs ++ ds) x y ≡ true
right_listed cs ds x y h = listed-append_at cs ds x y ∙ or_right _ _ h

one_of_two : (cs ds : List Cell) (x y : ℤ) → listed (cs ++ ds) x y ≡ true → (listed cs x y ≡ true) ⊎ (listed ds x y ≡ true)
one_of_two cs ds x y h = or_cases _ _ (sym (listed-append_at cs ds x y) ∙ h)

-- the cell is a live one among the first n of a word
pub record InWord (p : Place) (down word n : ℕ) (x y : ℤ) : Type 0 where
  pub right : ℕ
  pub within : right < n
  pub lives : test word right ≡ true
  pub column : x ≡ pos 64 *ℤ p.column +ℤ pos right
  pub row : y ≡ pos 64 *ℤ p.row +ℤ pos down

pub in_word : (p : Place) (down word n : ℕ) (x y : ℤ) → listed (word_cells p down word n) x y ≡ true → InWord p down word n x y
unfolding word_cells
in_word p down word zero x y h = cc
in_word p down word (suc n) x y h = elim (one_of_two (word_cells p down word n) _ x y h) [
  | inl before ↦ let w = in_word p down word n x y before in record { right = w.right; within = (let lt = w.within in omega arith); lives = w.lives; column = w.column; row = w.row }
  | inr last ↦ at (test word n) refl last
]
  where
    c : Cell
    c = cell (pos 64 *ℤ p.column +ℤ pos n) (pos 64 *ℤ p.row +ℤ pos down)

    at : (b : Bool) → test word n ≡ b → listed (cond b (cell (pos 64 *ℤ p.column +ℤ pos n) (pos 64 *ℤ p.row +ℤ pos down) ∷ []) []) x y ≡ true → InWord p down word (suc n) x y
    at true e k =
        let same : cell x y ≡ cell (pos 64 *ℤ p.column +ℤ pos n) (pos 64 *ℤ p.row +ℤ pos down) = same_cell_is _ _ (elim (or_cases _ _ k) [ inl one ↦ one | inr none ↦ cc ]) in
        record { right = n; within = omega arith; lives = e; column = ap (λ (d : Cell). d.x) same; row = ap (λ (d : Cell). d.y) same }
    at false e k = cc

pub from_word : (p : Place) (down word n right : ℕ) → right < n → test word right ≡ true → listed (word_cells p down word n) (pos 64 *ℤ p.column +ℤ pos right) (pos 64 *ℤ p.row +ℤ pos down) ≡ true
unfolding word_cells
from_word p down word zero right h lives = absurd (omega arith)
from_word p down word (suc n) right h lives = by (λ lt. from_word p down word n right lt lives) (cases_lt right n)
  where
    by : (right < n → listed (word_cells p down word n) (pos 64 *ℤ p.column +ℤ pos right) (pos 64 *ℤ p.row +ℤ pos down) ≡ true) → (right < n) ⊎ (n ≤ right) → listed (word_cells p down word n ++ cond (test word n) (cell (pos 64 *ℤ p.column +ℤ pos n) (pos 64 *ℤ p.row +ℤ pos down) ∷ []) []) (pos 64 *ℤ p.column +ℤ pos right) (pos 64 *ℤ p.row +ℤ pos down) ≡ true
    by before (inl lt) = left_listed (word_cells p down word n) (cond (test word n) (cell (pos 64 *ℤ p.column +ℤ pos n) (pos 64 *ℤ p.row +ℤ pos down) ∷ []) []) (pos 64 *ℤ p.column +ℤ pos right) (pos 64 *ℤ p.row +ℤ pos down) (before lt)
    by before (inr ge) =
        let same : right ≡ n = omega arith in
        right_listed (word_cells p down word n) _ _ _
        (ap (λ b. listed (cond b (cell (pos 64 *ℤ p.column +ℤ pos n) (pos 64 *ℤ p.row +ℤ pos down) ∷ []) []) (pos 64 *ℤ p.column +ℤ pos right) (pos 64 *ℤ p.row +ℤ pos down)) (ap (test word) (sym same) ∙ lives)
        ∙ or_left _ _ (ap (λ k. same_cell (cell (pos 64 *ℤ p.column +ℤ pos k) (pos 64 *ℤ p.row +ℤ pos down)) (cell (pos 64 *ℤ p.column +ℤ pos n) (pos 64 *ℤ p.row +ℤ pos down))) same ∙ same_cell-itself (cell (pos 64 *ℤ p.column +ℤ pos n) (pos 64 *ℤ p.row +ℤ pos down))))

-- the cell is a live one in the first n rows of a tile
pub record InTile (p : Place) (rows : List ℕ) (first n : ℕ) (x y : ℤ) : Type 0 where
  pub down : ℕ
  pub below : down < n
  pub cell : InWord p down (slice_index rows (first + down)) 64 x y

pub in_tile : (p : Place) (rows : List ℕ) (first n : ℕ) (x y : ℤ) → listed (tile_cells p rows first n) x y ≡ true → InTile p rows first n x y
unfolding tile_cells
in_tile p rows first zero x y h = cc
in_tile p rows first (suc n) x y h = elim (one_of_two (tile_cells p rows first n) _ x y h) [
  | inl before ↦ let t = in_tile p rows first n x y before in record { down = t.down; below = (let lt = t.below in omega arith); cell = t.cell }
  | inr last ↦ record { down = n; below = omega arith; cell = in_word p n _ 64 x y last }
]

pub from_tile : (p : Place) (rows : List ℕ) (first n down : ℕ) (x y : ℤ) → down < n → listed (word_cells p down (slice_index rows (first + down)) 64) x y ≡ true → listed (tile_cells p rows first n) x y ≡ true
unfolding tile_cells
from_tile p rows first zero down x y h live = absurd (omega arith)
from_tile p rows first (suc n) down x y h live = by (λ lt. from_tile p rows first n down x y lt live) (cases_lt down n)
  where
    by : (down < n → listed (tile_cells p rows first n) x y ≡ true) → (down < n) ⊎ (n ≤ down) → listed (tile_cells p rows first n ++ word_cells p n (slice_index rows (first + n)) 64) x y ≡ true
    by before (inl lt) = left_listed _ _ x y (before lt)
    by before (inr ge) =
        let same : down ≡ n = omega arith in
        right_listed (tile_cells p rows first n) _ x y (ap (λ k. listed (word_cells p k (slice_index rows (first + k)) 64) x y) (sym same) ∙ live)

-- the cell is a live one in the first n tiles
pub record InTiles (places : List Place) (rows : List ℕ) (n : ℕ) (x y : ℤ) : Type 0 where
  pub index : ℕ
  pub among : index < n
  pub tile : InTile (get_or places index (place (pos 0) (pos 0))) rows (64 * index) 64 x y

pub in_tiles : (places : List Place) (rows : List ℕ) (n : ℕ) (x y : ℤ) → listed (list_cells places rows n) x y ≡ true → InTiles places rows n x y
unfolding list_cells
in_tiles places rows zero x y h = cc
in_tiles places rows (suc n) x y h = elim (one_of_two (list_cells places rows n) _ x y h) [
  | inl before ↦ let t = in_tiles places rows n x y before in record { index = t.index; among = (let lt = t.among in omega arith); tile = t.tile }
  | inr last ↦ record { index = n; among = omega arith; tile = in_tile _ rows (64 * n) 64 x y last }
]

pub from_tiles : (places : List Place) (rows : List ℕ) (n index : ℕ) (x y : ℤ) → index < n → listed (tile_cells (get_or places index (place (pos 0) (pos 0))) rows (64 * index) 64) x y ≡ true → listed (list_cells places rows n) x y ≡ true
unfolding list_cells
from_tiles places rows zero index x y h live = absurd (omega arith)
from_tiles places rows (suc n) index x y h live = by (λ lt. from_tiles places rows n index x y lt live) (cases_lt index n)
  where
    by : (index < n → listed (list_cells places rows n) x y ≡ true) → (index < n) ⊎ (n ≤ index) → listed (list_cells places rows n ++ tile_cells (get_or places n (place (pos 0) (pos 0))) rows (64 * n) 64) x y ≡ true
    by before (inl lt) = left_listed _ _ x y (before lt)
    by before (inr ge) =
        let same : index ≡ n = omega arith in
        right_listed (list_cells places rows n) _ x y (ap (λ k. listed (tile_cells (get_or places k (place (pos 0) (pos 0))) rows (64 * k) 64) x y) (sym same) ∙ live)

-- ---- the list is of the plane

pub same_answers : (a b : Bool) → (a ≡ true → b ≡ true) → (b ≡ true → a ≡ true) → a ≡ b
same_answers true b f g = sym (f refl)
same_answers false true f g = g refl
same_answers false false f g = refl

module _ (m : TileMap) (tiled : IsTiled m) (x y : ℤ) where
  listed_lives : listed (list_cells m.places.keys m.rows.items (length m.places.keys)) x y ≡ true → cells_of m x y ≡ true
  unfolding plane_of_words
  listed_lives h =
      let t = in_tiles m.places.keys m.rows.items (length m.places.keys) x y h in
      let p : Place = get_or m.places.keys t.index (place (pos 0) (pos 0)) in
      let w = t.tile.cell in
      let index = index_is m.places.keys t.index p tiled.distinct (slice_get-get_or m.places.keys t.index (place (pos 0) (pos 0)) t.among) in
      ap₂ (λ c k. test (word_at m.places.keys m.rows.items c y) k) (part_is p.column w.right x w.within w.column) (offset_is p.column w.right x w.within w.column)
      ∙ ap (λ n. test n w.right) (word_in_tile m.places.keys m.rows.items p.column p.row t.tile.down y t.tile.below w.row ∙ ap (λ n. slice_index m.rows.items (64 * n + t.tile.down)) index)
      ∙ w.lives

  lives_listed : cells_of m x y ≡ true → listed (list_cells m.places.keys m.rows.items (length m.places.keys)) x y ≡ true
  unfolding plane_of_words word_at
  lives_listed h =
      let within = live_index m.places.keys m.rows.items x y tiled.rows h in
      let index = index_of m.places.keys (part x) (part y) in
      let is : get_or m.places.keys (index_of m.places.keys (part x) (part y)) (place (pos 0) (pos 0)) ≡ place (part x) (part y) =
      get_or_from_slice_get m.places.keys (index_of m.places.keys (part x) (part y)) (place (part x) (part y)) (place (pos 0) (pos 0)) (tile_at_index m.places.keys (part x) (part y) within) in
      let word = from_word (place (part x) (part y)) (offset y) (slice_index m.rows.items (64 * index_of m.places.keys (part x) (part y) + offset y)) 64 (offset x) (offset_below x) h in
      let here : listed (word_cells (place (part x) (part y)) (offset y) (slice_index m.rows.items (64 * index_of m.places.keys (part x) (part y) + offset y)) 64) x y ≡ true =
      ap₂ (λ a b. listed (word_cells (place (part x) (part y)) (offset y) (slice_index m.rows.items (64 * index_of m.places.keys (part x) (part y) + offset y)) 64) a b) (part_and_offset x) (part_and_offset y) ∙ word in
      let tile = from_tile (place (part x) (part y)) m.rows.items (64 * index_of m.places.keys (part x) (part y)) 64 (offset y) x y (offset_below y) here in
      from_tiles m.places.keys m.rows.items (length m.places.keys) (index_of m.places.keys (part x) (part y)) x y within
      (ap (λ q. listed (tile_cells q m.rows.items (64 * index_of m.places.keys (part x) (part y)) 64) x y) is ∙ tile)

-- the list of live cells is of the plane
pub listed_plane : (m : TileMap) → IsTiled m → listed (list_cells m.places.keys m.rows.items (length m.places.keys)) ≡ cells_of m
listed_plane m tiled = same_plane _ _ (λ x y. same_answers _ _ (listed_lives m tiled x y) (lives_listed m tiled x y))

-- what the set shows
pub alive-set_of : (m : TileMap) → IsTiled m → alive (set_of m) ≡ cells_of m
unfolding set_of
alive-set_of m tiled = alive-from_list _ ∙ listed_plane m tiled

-- tiles with the same live cells are one set
pub same_sets : (a b : TileMap) → IsTiled a → IsTiled b → cells_of a ≡ cells_of b → set_of a ≡ set_of b
same_sets a b f g e = same_cells _ _ (alive-set_of a f ∙ e ∙ sym (alive-set_of b g))
