-- A cell that is made live in its tile.
use Rattle.std.proofs.Common.{◌≡◌, ◌≢◌, ℕ, ◌+◌, ◌*◌, ◌%◌, ◌^◌, ◌<◌, ◌≤◌, Bool, true, false, ◌||◌, ◌==◌, nat_eq, ℤ, List, [], ◌∷◌, length, get_or, set, slice_get, slice_index, Some, refl, sym, ap, ap₂, subst, ◌∙◌, arith, w64}
use Rattle.std.specs.Int.{bit_at}
use Rattle.std.specs.List.{IsDistinct}
use Rattle.std.proofs.lemmas.Int.{ints}
use Rattle.std.proofs.lemmas.List.{get_or-set_same, length-set}
use Rattle.std.proofs.Common.{get_or-set_other}
use Rattle.std.proofs.lemmas.Nat.Bits.{bit_at_set_same, bit_at_set_other}
use Rattle.std.proofs.lemmas.Option.{slice_get_within}
use lib.Bits.{bit_or}
use Rattle.life_cells.specs.Boxes.{IsCellInRange, IsInRange}
use Rattle.life_cells.specs.declared.cell.Cell.{Cell}
use Rattle.life_cells.specs.Cells.{cell}
use Rattle.life_cells.specs.Listed.{same_cell, listed}
use Rattle.life_cells.specs.OrderLaws.{same_cell_is, same_cell-itself}
use Rattle.std.proofs.lemmas.Bool.{false_from_ne_true}
use Rattle.std.proofs.Math.Bool.{or-false, or-true}
use Rattle.life_kernel.specs.Rows.{test}
use Rattle.life_kernel.specs.Words.{part, offset, plane_of_words}
use Rattle.life_kernel.specs.WordLaws.{part_and_offset, offset_below}
use Rattle.life_plane.specs.Plane.{Plane, nothing, union, same_plane}
use Rattle.life_tiles.specs.declared.tile_map.TileMap.{TileMap}
use Rattle.life_cells.specs.Laws.{listed_at_place}
use Rattle.std.proofs.Common.{take}
use Rattle.std.proofs.lemmas.List.Folds.{list_any_more}
use Rattle.std.proofs.lemmas.Option.{slice_get-get_or}
use Rattle.std.proofs.lemmas.Nat.Bits.{bit_at-zero}
use Rattle.life_tiles.specs.declared.place.Place.{Place}
use Rattle.life_tiles.specs.Tiling.{place, same_place, index_of, word_at, IsLong, IsWithin, IsTiled, cells_of}
use Rattle.life_tiles.proofs.Tiling.{tile_at_index, index_is, no_word}

-- a cell in range lies in a tile that is near
pub tile_near : (c : Cell) (p : Place) → IsCellInRange (2 ^ 61) c → p ≡ place (part c.x) (part c.y) → IsWithin (2 ^ 56) p
tile_near c p range is =
    let x = part_and_offset c.x in
    let y = part_and_offset c.y in
    let right = offset_below c.x in
    let down = offset_below c.y in
    let a = range.x_low in
    let b = range.x_high in
    let d = range.y_low in
    let e = range.y_high in
    subst (IsWithin (2 ^ 56)) (sym is) (record { left = omega (arith, ints); right = omega (arith, ints); top = omega (arith, ints); bottom = omega (arith, ints) })

module _ (places : List Place) (rows : List ℕ) (i : ℕ) (c : Cell) (distinct : IsDistinct same_place places) (at : slice_get places i ≡ Some (place (part c.x) (part c.y))) (long : IsLong (length places) rows) where
  pub word_within : 64 * i + offset c.y < length rows
  word_within =
      let lt = slice_get_within places i _ at in
      let below = offset_below c.y in
      let room = long.long in
      omega arith

  -- where a word is set is where the cell's own word is
  own_word : (x y : ℤ) → 64 * index_of places (part x) (part y) + offset y ≡ 64 * i + offset c.y → (part x ≡ part c.x) × (y ≡ c.y)
  own_word x y e =
      let down = offset_below y in
      let own_down = offset_below c.y in
      let index : index_of places (part x) (part y) ≡ i = omega arith in
      let offsets : offset y ≡ offset c.y = omega arith in
      let lt : index_of places (part x) (part y) < length places = subst (λ n. n < length places) (sym index) (slice_get_within places i _ at) in
      let there : Some (place (part x) (part y)) ≡ Some (place (part c.x) (part c.y)) = sym (tile_at_index places (part x) (part y) lt) ∙ ap (slice_get places) index ∙ at in
      let same : place (part x) (part y) ≡ place (part c.x) (part c.y) = cc in
      let rows_same : part y ≡ part c.y = ap (λ (p : Place). p.row) same in
      let is = part_and_offset y in
      let own = part_and_offset c.y in
      (ap (λ (p : Place). p.column) same, omega (arith, ints))

  -- the cell's own word is where a word is set
  itself : (x y : ℤ) → cell x y ≡ c → 64 * index_of places (part x) (part y) + offset y ≡ 64 * i + offset c.y
  itself x y e =
      let xs : x ≡ c.x = ap (λ (d : Cell). d.x) e in
      let ys : y ≡ c.y = ap (λ (d : Cell). d.y) e in
      ap₂ (λ a b. 64 * index_of places (part a) (part b) + offset b) xs ys ∙ ap (λ n. 64 * n + offset c.y) (index_is places i _ distinct at)

  not_listed : (x y : ℤ) → cell x y ≢ c → listed (c ∷ []) x y ≡ false
  not_listed x y ne = or-false _ ∙ false_from_ne_true (same_cell (cell x y) c) (λ h. ne (same_cell_is (cell x y) c h))

  module _ (x y : ℤ) where
    elsewhere : (w : ℕ) → 64 * index_of places (part x) (part y) + offset y ≢ 64 * i + offset c.y
        → test (slice_index (set rows (64 * i + offset c.y) w) (64 * index_of places (part x) (part y) + offset y)) (offset x)
        ≡ (test (slice_index rows (64 * index_of places (part x) (part y) + offset y)) (offset x) || listed (c ∷ []) x y)
    elsewhere w ne =
        ap (λ n. test n (offset x)) (get_or-set_other rows (64 * i + offset c.y) (64 * index_of places (part x) (part y) + offset y) w 0 ne)
        ∙ sym (or-false _)
        ∙ ap (λ b. test (slice_index rows (64 * index_of places (part x) (part y) + offset y)) (offset x) || b) (sym (not_listed x y (λ h. ne (itself x y h))))

    here : 64 * index_of places (part x) (part y) + offset y ≡ 64 * i + offset c.y
        → test (bit_or (slice_index rows (64 * i + offset c.y)) (1 * 2 ^ offset c.x % 2 ^ 64)) (offset x)
        ≡ (test (slice_index rows (64 * i + offset c.y)) (offset x) || listed (c ∷ []) x y)
    unfolding test
    here e = go (nat_eq (offset x) (offset c.x)) refl
      where
        was : ℕ
        was = slice_index rows (64 * i + offset c.y)

        go : (b : Bool) → nat_eq (offset x) (offset c.x) ≡ b
            → (bit_at (bit_or (slice_index rows (64 * i + offset c.y)) (1 * 2 ^ offset c.x % 2 ^ 64)) (offset x) == 1)
            ≡ ((bit_at (slice_index rows (64 * i + offset c.y)) (offset x) == 1) || listed (c ∷ []) x y)
        go true same =
            let offsets : offset x ≡ offset c.x = grind arith in
            let own = own_word x y e in
            let is = part_and_offset x in
            let own_is = part_and_offset c.x in
            let parts = own.0 in
            let xs : x ≡ c.x = omega (arith, ints) in
            let whole : cell x y ≡ c = λ l. record { y = own.1 l; x = xs l } in
            ap (λ k. bit_at (bit_or (slice_index rows (64 * i + offset c.y)) (1 * 2 ^ offset c.x % 2 ^ 64)) k == 1) offsets
            ∙ ap (λ n. n == 1) (bit_at_set_same w64 (slice_index rows (64 * i + offset c.y)) (offset c.x) (offset_below c.x))
            ∙ sym (or-true (bit_at (slice_index rows (64 * i + offset c.y)) (offset x) == 1))
            ∙ ap (λ b. (bit_at (slice_index rows (64 * i + offset c.y)) (offset x) == 1) || b) (sym (ap (λ d. listed (c ∷ []) d.x d.y) whole ∙ ap (λ b. b || false) (same_cell-itself c)))
        go false other =
            let ne : offset x ≢ offset c.x = grind arith in
            ap (λ n. n == 1) (bit_at_set_other w64 (slice_index rows (64 * i + offset c.y)) (offset c.x) (offset_below c.x) (offset x) ne)
            ∙ sym (or-false _)
            ∙ ap (λ b. (bit_at (slice_index rows (64 * i + offset c.y)) (offset x) == 1) || b) (sym (not_listed x y (λ h. ne (ap (λ (d : Cell). offset d.x) h))))

  -- the plane gains just the cell
  pub set_cell : plane_of_words (word_at places (set rows (64 * i + offset c.y) (bit_or (slice_index rows (64 * i + offset c.y)) (1 * 2 ^ offset c.x % 2 ^ 64)))) ≡ union (plane_of_words (word_at places rows)) (listed (c ∷ []))
  unfolding plane_of_words word_at
  set_cell = same_plane _ _ (λ x y. by x y (nat_eq (64 * index_of places (part x) (part y) + offset y) (64 * i + offset c.y)) refl)
    where
      by : (x y : ℤ) (b : Bool) → nat_eq (64 * index_of places (part x) (part y) + offset y) (64 * i + offset c.y) ≡ b
          → test (slice_index (set rows (64 * i + offset c.y) (bit_or (slice_index rows (64 * i + offset c.y)) (1 * 2 ^ offset c.x % 2 ^ 64))) (64 * index_of places (part x) (part y) + offset y)) (offset x)
          ≡ (test (slice_index rows (64 * index_of places (part x) (part y) + offset y)) (offset x) || listed (c ∷ []) x y)
      by x y false e = let ne : 64 * index_of places (part x) (part y) + offset y ≢ 64 * i + offset c.y = grind arith in elsewhere x y _ ne
      by x y true e =
          let same : 64 * index_of places (part x) (part y) + offset y ≡ 64 * i + offset c.y = grind arith in
          ap (λ m. test (slice_index (set rows (64 * i + offset c.y) (bit_or (slice_index rows (64 * i + offset c.y)) (1 * 2 ^ offset c.x % 2 ^ 64))) m) (offset x)) same
          ∙ ap (λ n. test n (offset x)) (get_or-set_same rows (64 * i + offset c.y) _ 0 word_within)
          ∙ here x y same
          ∙ ap (λ m. test (slice_index rows m) (offset x) || listed (c ∷ []) x y) (sym same)

  -- behind the last tile nothing is set
  pub set_long : (w : ℕ) → IsLong (length places) (set rows (64 * i + offset c.y) w)
  set_long w = record {
    long = omega (arith, long.long, length-set rows (64 * i + offset c.y) w);
    ends = λ j h. let lt = slice_get_within places i _ at in let below = offset_below c.y in let ne : j ≢ 64 * i + offset c.y = omega arith in
        get_or-set_other rows (64 * i + offset c.y) j w 0 ne ∙ long.ends j h;
  }

  -- the same at numbers that are equal
  pub set_cell_at : (down right w : ℕ) → down ≡ offset c.y → right ≡ offset c.x → w ≡ slice_index rows (64 * i + down)
      → plane_of_words (word_at places (set rows (64 * i + down) (bit_or w (1 * 2 ^ right % 2 ^ 64)))) ≡ union (plane_of_words (word_at places rows)) (listed (c ∷ []))
  set_cell_at down right w d r e =
      ap (λ v. plane_of_words (word_at places (set rows (64 * i + down) (bit_or v (1 * 2 ^ right % 2 ^ 64))))) e
      ∙ ap₂ (λ a b. plane_of_words (word_at places (set rows (64 * i + a) (bit_or (slice_index rows (64 * i + a)) (1 * 2 ^ b % 2 ^ 64))))) d r
      ∙ set_cell

  pub set_long_at : (down w : ℕ) → down ≡ offset c.y → IsLong (length places) (set rows (64 * i + down) w)
  set_long_at down w d = subst (λ a. IsLong (length places) (set rows (64 * i + a) w)) (sym d) (set_long w)

-- ---- cells one by one

pub no_cell : (m : TileMap) → IsTiled m → m.places.keys ≡ [] → cells_of m ≡ nothing
unfolding plane_of_words test
no_cell m tiled none = same_plane _ _ (λ x y.
    let ge : length m.places.keys ≤ index_of m.places.keys (part x) (part y) = omega (arith, ap (λ (ks : List Place). length ks) none) in
    ap (λ n. bit_at n (offset x) == 1) (no_word m.places.keys m.rows.items (part x) y tiled.rows ge) ∙ ap (λ n. n == 1) (bit_at-zero (offset x)))

pub one_more_cell : (s t : Plane) (cells : List Cell) (i : ℕ) (d : Cell) → i < length cells → s ≡ listed (take i cells) → t ≡ union s (listed (get_or cells i d ∷ [])) → t ≡ listed (take (i + 1) cells)
one_more_cell s t cells i d h e f = f ∙ ap (λ (r : Plane). union r (listed (get_or cells i d ∷ []))) e ∙ same_plane _ _ (λ x y.
    ap (λ b. listed (take i cells) x y || b) (or-false (same_cell (cell x y) (get_or cells i d))) ∙ sym (list_any_more (same_cell (cell x y)) cells i d h))

pub listed_in_range : (cells : List Cell) (i : ℕ) (d : Cell) → i < length cells → IsInRange (2 ^ 61) (listed cells) → IsCellInRange (2 ^ 61) (get_or cells i d)
listed_in_range cells i d h range =
    let c = get_or cells i d in
    let lives = listed_at_place cells i (get_or cells i d) (slice_get-get_or cells i d h) in
    record { x_low = range.x_low c.x c.y lives; x_high = range.x_high c.x c.y lives; y_low = range.y_low c.x c.y lives; y_high = range.y_high c.x c.y lives }
