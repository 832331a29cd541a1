-- Tiles by their places, and their words.
use Rattle.std.proofs.Common.{◌≡◌, ◌⊎◌, ℕ, zero, suc, ◌+◌, ◌*◌, ◌^◌, ◌<◌, ◌≤◌, Bool, true, false, not, ◌&&◌, cond, eqb, ◌||◌, ◌==◌, nat_lt, ℤ, pos, ◌+ℤ◌, ◌*ℤ◌, List, [], ◌∷◌, ◌++◌, length, get_or, slice_get, slice_index, Some, None, position, refl, sym, ap, ap₂, subst, ◌∙◌, arith, inl, inr}
use Rattle.std.specs.List.{list_any, IsDistinct}
use Rattle.std.specs.Ordering.{int_eq}
use Rattle.std.specs.Cmp.{int_eq_equiv}
use Rattle.std.proofs.lemmas.Bool.Decides.{Decides-int_eq}
use Rattle.std.proofs.lemmas.Bool.{cases_lt, and_parts}
use Rattle.std.proofs.lemmas.List.Folds.{position_or_len_push}
use Rattle.std.proofs.lemmas.List.Sums.{prefix_len-le-length, position_or_len_is, fails_before_first, passes_at_first}
use Rattle.std.proofs.lemmas.Map.Keys.{apart_from_distinct}
use Rattle.std.proofs.lemmas.Option.{slice_get_within, get_or_from_slice_get, slice_get-get_or}
use Rattle.life_kernel.specs.Rows.{test}
use Rattle.life_kernel.specs.Words.{part, offset, plane_of_words}
use Rattle.std.specs.Int.{bit_at}
use Rattle.std.proofs.lemmas.Nat.Bits.{bit_at-zero}
use Rattle.life_kernel.specs.WordLaws.{part_is, offset_is}
use Rattle.life_tiles.specs.declared.place.Place.{Place}
use Rattle.life_tiles.specs.Tiling.{place, same_place, index_of, HasTile, word_at, IsLong, IsTiled}
use Rattle.life_tiles.specs.declared.tile_map.TileMap.{TileMap}

-- ---- places

pub same_place_is : (p q : Place) → same_place p q ≡ true → p ≡ q
same_place_is p q h =
    let both = and_parts (int_eq p.row q.row) (int_eq p.column q.column) h in
    let rows = (Decides-int_eq p.row q.row).0 both.0 in
    let columns = (Decides-int_eq p.column q.column).0 both.1 in
    λ i. record { row = rows i; column = columns i }

pub same_place-itself : (p : Place) → same_place p p ≡ true
same_place-itself p = ap₂ (λ a b. a && b) (int_eq_equiv.refl p.row) (int_eq_equiv.refl p.column)

-- ---- indices

pub item_at : (places : List Place) (i : ℕ) (p d : Place) → slice_get places i ≡ Some p → get_or places i d ≡ p
item_at places i p d h = get_or_from_slice_get places i p d h

-- the tile at the index of a place is that of the place
pub tile_at_index : (places : List Place) (column row : ℤ) → index_of places column row < length places → slice_get places (index_of places column row) ≡ Some (place column row)
tile_at_index places column row h =
    let p = place column row in
    slice_get-get_or places (index_of places column row) p h
    ∙ ap Some (sym (same_place_is p (get_or places (index_of places column row) p) (passes_at_first (same_place p) places p h)))

false_true : (b : Bool) → b ≡ false → b ≡ true → ⊥
false_true b h k = cc

-- a place that is there has an index
pub index_within : (places : List Place) (column row : ℤ) → HasTile places column row → index_of places column row < length places
index_within places column row has =
    let p = place column row in
    let within = slice_get_within places has.index p has.at in
    let here : same_place p (get_or places has.index p) ≡ true = ap (same_place p) (item_at places has.index p p has.at) ∙ same_place-itself p in
    elim (cases_lt has.index (index_of places column row)) [
      | inl lt ↦ absurd (false_true _ (fails_before_first (same_place p) places has.index p lt) here)
      | inr ge ↦ omega arith
    ]

pub index_at_most : (places : List Place) (column row : ℤ) → index_of places column row ≤ length places
index_at_most places column row = prefix_len-le-length (λ p. not (same_place (place column row) p)) places

-- where places are distinct, a place has one index
pub index_is : (places : List Place) (i : ℕ) (p : Place) → IsDistinct same_place places → slice_get places i ≡ Some p → index_of places p.column p.row ≡ i
index_is places i p distinct at =
    let within = slice_get_within places i p at in
    let le : i ≤ length places = omega arith in
    position_or_len_is (same_place p) places i p le
    (λ k lt. sym (int_sym k) ∙ apart k lt)
    (λ _. ap (same_place p) (item_at places i p p at) ∙ same_place-itself p)
  where
    apart : (k : ℕ) → k < i → same_place (get_or places k p) (get_or places i p) ≡ false
    apart k lt = apart_from_distinct same_place places k i p distinct lt (slice_get_within places i p at)

    int_sym : (k : ℕ) → same_place (get_or places k p) (get_or places i p) ≡ same_place p (get_or places k p)
    int_sym k =
        ap (same_place (get_or places k p)) (item_at places i p p at)
        ∙ ap₂ (λ a b. a && b) (int_eq_equiv.symm (get_or places k p).row p.row) (int_eq_equiv.symm (get_or places k p).column p.column)

-- what a search by place found
pub found_index : (places : List Place) (column row : ℤ) (i : ℕ) → position (same_place (place column row)) places ≡ Some i → (i ≡ index_of places column row) × (i < length places)
found_index places column row i h = go (nat_lt (index_of places column row) (length places)) refl h
  where
    go : (b : Bool) → nat_lt (index_of places column row) (length places) ≡ b → cond b (Some (index_of places column row)) None ≡ Some i → (i ≡ index_of places column row) × (i < length places)
    go true e k = let same : index_of places column row ≡ i = cc in (sym same, subst (λ n. n < length places) same (grind arith))
    go false e k = cc

-- a search finds a place that is there
pub is_found : (places : List Place) (column row : ℤ) → HasTile places column row → position (same_place (place column row)) places ≡ Some (index_of places column row)
is_found places column row has =
    let within = index_within places column row has in
    let yes : nat_lt (index_of places column row) (length places) ≡ true = grind arith in
    ap (λ b. cond b (Some (index_of places column row)) None) yes

pub not_found : (places : List Place) (column row : ℤ) → position (same_place (place column row)) places ≡ None → length places ≤ index_of places column row
not_found places column row h = go (nat_lt (index_of places column row) (length places)) refl h
  where
    go : (b : Bool) → nat_lt (index_of places column row) (length places) ≡ b → cond b (Some (index_of places column row)) None ≡ None → length places ≤ index_of places column row
    go true e k = cc
    go false e k = grind arith

-- ---- words

-- the word so far down in a tile
pub word_in_tile : (places : List Place) (rows : List ℕ) (column row : ℤ) (down : ℕ) (y : ℤ) → down < 64 → y ≡ pos 64 *ℤ row +ℤ pos down
    → word_at places rows column y ≡ slice_index rows (64 * index_of places column row + down)
unfolding word_at
word_in_tile places rows column row down y h e = ap₂ (λ r d. slice_index rows (64 * index_of places column r + d)) (part_is row down y h e) (offset_is row down y h e)

-- where there is no tile, there is no live cell
pub no_word : (places : List Place) (rows : List ℕ) (column y : ℤ) → IsLong (length places) rows → length places ≤ index_of places column (part y) → word_at places rows column y ≡ 0
unfolding word_at
no_word places rows column y long h = long.ends (64 * index_of places column (part y) + offset y) (omega arith)

-- words that are read alike are alike
pub same_words : (places : List Place) (rows rows' : List ℕ) → ((j : ℕ) → slice_index rows j ≡ slice_index rows' j) → word_at places rows ≡ word_at places rows'
unfolding word_at
same_words places rows rows' same = λ i column y. same (64 * index_of places column (part y) + offset y) i

-- ---- one place more

pub long_more : (n m : ℕ) (rows : List ℕ) → IsLong n rows → n ≤ m → 64 * m ≤ length rows → IsLong m rows
long_more n m rows long le room = record { long = room; ends = λ j h. long.ends j (omega arith) }

pub long_along : (n : ℕ) (rows rows' : List ℕ) → IsLong n rows → length rows ≤ length rows' → ((j : ℕ) → slice_index rows' j ≡ slice_index rows j) → IsLong n rows'
long_along n rows rows' long le same = record { long = (let l = long.long in omega arith); ends = λ j h. same j ∙ long.ends j h }

module _ (places : List Place) (rows : List ℕ) (long : IsLong (length places) rows) (p : Place) where
  pushed_word : (column y : ℤ) → word_at (places ++ p ∷ []) rows column y ≡ word_at places rows column y
  unfolding word_at
  pushed_word column y = go (eqb (index_of places column (part y)) (length places)) refl
    where
      test : Bool
      test = same_place (place column (part y)) p

      go : (b : Bool) → eqb (index_of places column (part y)) (length places) ≡ b → word_at (places ++ p ∷ []) rows column y ≡ word_at places rows column y
      go false e = ap (λ n. slice_index rows (64 * n + offset y)) (position_or_len_push (same_place (place column (part y))) places p ∙ ap (λ b. cond b (length places + cond test 0 1) (index_of places column (part y))) e)
      go true e =
          let is : index_of places column (part y) ≡ length places = grind arith in
          let pushed : index_of (places ++ p ∷ []) column (part y) ≡ length places + cond test 0 1 =
          position_or_len_push (same_place (place column (part y))) places p ∙ ap (λ b. cond b (length places + cond test 0 1) (index_of places column (part y))) e in
          let far : length places ≤ index_of (places ++ p ∷ []) column (part y) = omega arith in
          long.ends (64 * index_of (places ++ p ∷ []) column (part y) + offset y) (omega arith)
          ∙ sym (long.ends (64 * index_of places column (part y) + offset y) (omega arith))

  -- a place more changes no word
  pub pushed_words : word_at (places ++ p ∷ []) rows ≡ word_at places rows
  pushed_words = λ i column y. pushed_word column y i

pub slice_get_left : (xs ys : List Place) (i : ℕ) (q : Place) → slice_get xs i ≡ Some q → slice_get (xs ++ ys) i ≡ Some q
slice_get_left [] ys i q h = cc
slice_get_left (x ∷ xs) ys zero q h = h
slice_get_left (x ∷ xs) ys (suc i) q h = slice_get_left xs ys i q h

-- the last of a list
pub last_item : (xs : List Place) (p : Place) → slice_get (xs ++ p ∷ []) (length xs) ≡ Some p
last_item [] p = refl
last_item (x ∷ xs) p = last_item xs p

-- each place was there, or is the last one
pub pushed_item : (xs : List Place) (p : Place) (i : ℕ) (q : Place) → slice_get (xs ++ p ∷ []) i ≡ Some q → (slice_get xs i ≡ Some q) ⊎ ((i ≡ length xs) × (p ≡ q))
pushed_item [] p zero q h = inr (refl, cc)
pushed_item [] p (suc i) q h = cc
pushed_item (x ∷ xs) p zero q h = inl h
pushed_item (x ∷ xs) p (suc i) q h = elim (pushed_item xs p i q h) [ inl l ↦ inl l | inr r ↦ inr (ap suc r.0, r.1) ]

-- a place that is among others stands at an index
pub member_at : (places : List Place) (q : Place) → list_any (same_place q) places ≡ true → HasTile places q.column q.row
member_at [] q h = cc
member_at (p ∷ places) q h = by (member_at places q) (same_place q p) refl h
  where
    by : (list_any (same_place q) places ≡ true → HasTile places q.column q.row) → (b : Bool) → same_place q p ≡ b → (b || list_any (same_place q) places) ≡ true → HasTile (p ∷ places) q.column q.row
    by later true e h = record { index = 0; at = ap Some (sym (same_place_is q p e)) }
    by later false e h = let t = later h in record { index = suc t.index; at = t.at }

-- a place that is not found is not among them
pub absent : (places : List Place) (q : Place) → length places ≤ index_of places q.column q.row → list_any (same_place q) places ≡ false
absent places q none = by (list_any (same_place q) places) refl
  where
    by : (b : Bool) → list_any (same_place q) places ≡ b → list_any (same_place q) places ≡ false
    by false e = e
    by true e = let within = index_within places q.column q.row (member_at places q e) in absurd (omega arith)

-- ---- room

module _ (m : TileMap) (tiled : IsTiled m) (i : ℕ) (within : i < length m.places.keys) where
  -- the words of a tile are there
  pub rows_room : 64 * i + 64 ≤ m.rows.len
  rows_room = let long = tiled.rows.long in let ok = m.rows.ok.0 in omega arith

  pub next_room : 64 * i + 64 ≤ m.next.len
  next_room = let long = tiled.next.long in let ok = m.next.ok.0 in omega arith

  pub rows_small : 64 * i + 64 < 2 ^ 63
  rows_small = let room = rows_room in let ok = m.rows.ok.1 in let small = m.rows.small in omega arith

-- ---- live cells

-- a live cell lies in a tile
pub live_index : (places : List Place) (rows : List ℕ) (x y : ℤ) → IsLong (length places) rows → plane_of_words (word_at places rows) x y ≡ true → index_of places (part x) (part y) < length places
unfolding plane_of_words test
live_index places rows x y long live = elim (cases_lt (index_of places (part x) (part y)) (length places)) [
  | inl lt ↦ lt
  | inr ge ↦
      let dark : (bit_at (word_at places rows (part x) y) (offset x) == 1) ≡ false = ap (λ n. bit_at n (offset x) == 1) (no_word places rows (part x) y long ge) ∙ ap (λ n. n == 1) (bit_at-zero (offset x)) in
      absurd (false_true _ dark live)
]

-- the item of a list that equals another
pub item_of : (xs ys : List Place) (i : ℕ) (d : Place) → xs ≡ ys → i < length ys → slice_get ys i ≡ Some (get_or xs i d)
item_of xs ys i d same within = slice_get-get_or ys i d within ∙ ap (λ zs. Some (get_or zs i d)) (sym same)
