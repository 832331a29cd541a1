-- How many tiles have live cells.
use Rattle.std.proofs.Common.{◌≡◌, ℕ, ◌+◌, ◌*◌, Bool, true, false, cond, ◌&&◌, ℤ, pos, ◌+ℤ◌, ◌*ℤ◌, List, [], ◌∷◌, length, map, slice_get, slice_index, Some, refl, sym, ap, ap₂, subst, ◌∙◌, inl, inr}
use Rattle.std.specs.Cmp.{IsEquivalence, on_equiv, and_equiv, int_eq_equiv}
use Rattle.std.specs.List.{list_any, count_by, filter, AllByRecursion, IsDistinct}
use Rattle.std.proofs.lemmas.Bool.{or_cases, or_left, or_right}
use Rattle.std.proofs.lemmas.List.Folds.{list_any_at}
use Rattle.std.proofs.lemmas.Map.Made.{length-from_keys, is_member-filter}
use Rattle.std.proofs.lemmas.List.Sums.{length-filter}
use Rattle.std.proofs.lemmas.Map.Keys.{IsDistinct-head, IsDistinct-tail, IsDistinct-cons}
use Rattle.std.proofs.lemmas.Option.{slice_get_within, get_or_from_slice_get}
use Rattle.life_cells.specs.declared.cell.Cell.{Cell}
use Rattle.life_cells.specs.Cells.{Cells, alive, cell, in_order}
use Rattle.life_cells.specs.Laws.{alive-in_order}
use Rattle.life_cells.specs.Listed.{same_cell, listed}
use Rattle.life_cells.specs.PlaceLaws.{listed_here}
use Rattle.life_cells.specs.OrderLaws.{same_cell_is}
use Rattle.life_kernel.specs.Rows.{test}
use Rattle.life_kernel.specs.Words.{part, offset, plane_of_words}
use Rattle.life_kernel.specs.WordLaws.{part_is, offset_is, offset_below}
use Rattle.life_plane.specs.Plane.{Plane}
use Rattle.life_tiles.specs.declared.place.Place.{Place}
use Rattle.life_tiles.specs.Tiled.{tile_of, tile_count}
use Rattle.life_tiles.specs.declared.tile_map.TileMap.{TileMap}
use Rattle.life_tiles.specs.Pruning.{EachLives}
use Rattle.life_tiles.specs.Tiling.{place, same_place, index_of, word_at, cells_of, set_of, HasTile, IsTiled, IsEmptyTile, IsLiveTile}
use Rattle.life_tiles.proofs.Tiling.{same_place_is, same_place-itself, member_at, index_is, live_index, tile_at_index}
use Rattle.life_tiles.proofs.Lists.{same_answers, alive-set_of}
use Rattle.life_tiles.proofs.Bits.{dark_none}

same_place_equiv : IsEquivalence same_place
same_place_equiv = and_equiv (on_equiv (λ (p : Place). p.row) int_eq_equiv) (on_equiv (λ (p : Place). p.column) int_eq_equiv)

-- the tile at a place has a live cell
pub record LivesAt (s : Plane) (p : Place) : Type 0 where
  pub x : ℤ
  pub y : ℤ
  pub lives : s x y ≡ true
  pub is : place (part x) (part y) ≡ p

-- a place that is listed is one of the list's
member_from : (places : List Place) (q : Place) → HasTile places q.column q.row → list_any (same_place q) places ≡ true
member_from places q has =
    let within = slice_get_within places has.index q has.at in
    list_any_at (same_place q) places has.index q within (ap (same_place q) (get_or_from_slice_get places has.index q q has.at) ∙ same_place-itself q)

-- the tiles of listed cells
tile_listed : (cells : List Cell) (x y : ℤ) → listed cells x y ≡ true → list_any (same_place (place (part x) (part y))) (map tile_of cells) ≡ true
tile_listed [] x y h = cc
tile_listed (c ∷ cells) x y h = elim (or_cases (same_cell (cell x y) c) (listed cells x y) h) [
  | inl here ↦ or_left _ _ (subst (λ (d : Cell). same_place (place (part x) (part y)) (tile_of d) ≡ true) (same_cell_is (cell x y) c here) (same_place-itself (place (part x) (part y))))
  | inr there ↦ or_right _ _ (tile_listed cells x y there)
]

live_tile : (cells : List Cell) (q : Place) → list_any (same_place q) (map tile_of cells) ≡ true → LivesAt (listed cells) q
live_tile [] q h = cc
live_tile (c ∷ cells) q h = elim (or_cases (same_place q (tile_of c)) (list_any (same_place q) (map tile_of cells)) h) [
  | inl here ↦ record { x = c.x; y = c.y; lives = listed_here c cells; is = sym (same_place_is q (tile_of c) here) }
  | inr there ↦ let l = live_tile cells q there in record { x = l.x; y = l.y; lives = or_right _ _ l.lives; is = l.is }
]

-- ---- tiles with live cells

-- whether the tile at a place has a live cell
pub is_live : Cells → Place → Bool
is_live s p = list_any (same_place p) (map tile_of (in_order s))

pub lives_there : (s : Cells) (p : Place) → is_live s p ≡ true → LivesAt (alive s) p
unfolding is_live
lives_there s p h = let l = live_tile (in_order s) p h in record { x = l.x; y = l.y; lives = ap (λ (t : Plane). t l.x l.y) (alive-in_order s) ∙ l.lives; is = l.is }

pub there_lives : (s : Cells) (p : Place) → LivesAt (alive s) p → is_live s p ≡ true
unfolding is_live
there_lives s p l = subst (λ q. list_any (same_place q) (map tile_of (in_order s)) ≡ true) l.is (tile_listed (in_order s) l.x l.y (ap (λ (t : Plane). t l.x l.y) (sym (alive-in_order s)) ∙ l.lives))

-- tiles of which each has a live cell, and of which none with one is left out, are as many as are counted
pub counted : (s : Cells) (places : List Place) → IsDistinct same_place places → ((i : ℕ) (p : Place) → slice_get places i ≡ Some p → LivesAt (alive s) p)
    → ((x y : ℤ) → alive s x y ≡ true → HasTile places (part x) (part y)) → length places ≡ tile_count s
unfolding tile_count is_live
counted s places distinct lives all = length-from_keys same_place_equiv places (map tile_of (in_order s)) distinct (λ q. same_answers _ _ (to q) (from q))
  where
    to : (q : Place) → list_any (same_place q) places ≡ true → list_any (same_place q) (map tile_of (in_order s)) ≡ true
    to q h = let has = member_at places q h in there_lives s q (lives has.index q has.at)

    from : (q : Place) → list_any (same_place q) (map tile_of (in_order s)) ≡ true → list_any (same_place q) places ≡ true
    from q h =
        let l = lives_there s q h in
        member_from places q (subst (λ (p : Place). HasTile places p.column p.row) l.is (all l.x l.y l.lives))

module _ (m : TileMap) (tiled : IsTiled m) (i : ℕ) (p : Place) (at : slice_get m.places.keys i ≡ Some p) where
  cell_lives : (x y : ℤ) → place (part x) (part y) ≡ p → cells_of m x y ≡ test (slice_index m.rows.items (64 * i + offset y)) (offset x)
  unfolding plane_of_words word_at
  cell_lives x y is = ap (λ n. test (slice_index m.rows.items (64 * n + offset y)) (offset x)) (index_is m.places.keys i (place (part x) (part y)) tiled.distinct (at ∙ ap Some (sym is)))

  -- a tile with a live bit has a live cell
  pub tile_lives : IsLiveTile m.rows.items i → LivesAt (alive (set_of m)) p
  tile_lives l =
      let x = pos 64 *ℤ p.column +ℤ pos l.right in
      let y = pos 64 *ℤ p.row +ℤ pos l.down in
      let column = part_is p.column l.right (pos 64 *ℤ p.column +ℤ pos l.right) l.within refl in
      let row = part_is p.row l.down (pos 64 *ℤ p.row +ℤ pos l.down) l.below refl in
      let is : place (part (pos 64 *ℤ p.column +ℤ pos l.right)) (part (pos 64 *ℤ p.row +ℤ pos l.down)) ≡ p = λ j. record { row = row j; column = column j } in
      record {
        x = pos 64 *ℤ p.column +ℤ pos l.right;
        y = pos 64 *ℤ p.row +ℤ pos l.down;
        lives = ap (λ (s : Plane). s (pos 64 *ℤ p.column +ℤ pos l.right) (pos 64 *ℤ p.row +ℤ pos l.down)) (alive-set_of m tiled)
            ∙ cell_lives (pos 64 *ℤ p.column +ℤ pos l.right) (pos 64 *ℤ p.row +ℤ pos l.down) is
            ∙ ap₂ (λ b a. test (slice_index m.rows.items (64 * i + b)) a) (offset_is p.row l.down (pos 64 *ℤ p.row +ℤ pos l.down) l.below refl) (offset_is p.column l.right (pos 64 *ℤ p.column +ℤ pos l.right) l.within refl)
            ∙ l.lives;
        is = is;
      }

  -- an empty tile has none
  pub empty_is_dead : IsEmptyTile m.rows.items i → is_live (set_of m) p ≡ false
  empty_is_dead empty = by (is_live (set_of m) p) refl
    where
      by : (b : Bool) → is_live (set_of m) p ≡ b → is_live (set_of m) p ≡ false
      by false e = e
      by true e =
          let l = lives_there (set_of m) p e in
          let lit : test (slice_index m.rows.items (64 * i + offset l.y)) (offset l.x) ≡ true = sym (cell_lives l.x l.y l.is) ∙ ap (λ (s : Plane). s l.x l.y) (sym (alive-set_of m tiled)) ∙ l.lives in
          absurd (dark_none (slice_index m.rows.items (64 * i + offset l.y)) (offset l.x) (empty.words (offset l.y) (offset_below l.y)) lit)

-- where each tile has a live cell, there are as many as are counted
pub pruned_count : (m : TileMap) → IsTiled m → EachLives m → length m.places.keys ≡ tile_count (set_of m)
pruned_count m tiled lives = counted (set_of m) m.places.keys tiled.distinct (λ i p at. tile_lives m tiled i p at (lives.each i (slice_get_within m.places.keys i p at)))
    (λ x y live. let within = live_index m.places.keys m.rows.items x y tiled.rows (ap (λ (s : Plane). s x y) (sym (alive-set_of m tiled)) ∙ live) in record { index = index_of m.places.keys (part x) (part y); at = tile_at_index m.places.keys (part x) (part y) within })

all_filter : (P : Place → Type 0) (p : Place → Bool) (places : List Place) → AllByRecursion P places → AllByRecursion P (filter p places)
all_filter P p [] h = tt
all_filter P p (q ∷ places) h = by (p q) (all_filter P p places h.1)
  where
    by : (b : Bool) → AllByRecursion P (filter p places) → AllByRecursion P (cond b (q ∷ filter p places) (filter p places))
    by true rest = (h.0, rest)
    by false rest = rest

distinct_filter : (p : Place → Bool) (places : List Place) → IsDistinct same_place places → IsDistinct same_place (filter p places)
distinct_filter p [] h = h
distinct_filter p (q ∷ places) h = by (p q) (distinct_filter p places (IsDistinct-tail same_place q places h))
  where
    by : (b : Bool) → IsDistinct same_place (filter p places) → IsDistinct same_place (cond b (q ∷ filter p places) (filter p places))
    by true rest = IsDistinct-cons same_place q (filter p places) (all_filter (λ r. same_place q r ≡ false) p places (IsDistinct-head same_place q places h)) rest
    by false rest = rest

-- the live tiles among all are as many as are counted
pub live_places : (m : TileMap) → IsTiled m → count_by (is_live (set_of m)) m.places.keys ≡ tile_count (set_of m)
unfolding tile_count is_live
live_places m tiled =
    let p : Place → Bool = λ q. list_any (same_place q) (map tile_of (in_order (set_of m))) in
    sym (length-filter p m.places.keys)
    ∙ length-from_keys same_place_equiv (filter p m.places.keys) (map tile_of (in_order (set_of m))) (distinct_filter p m.places.keys tiled.distinct)
    (λ q. is_member-filter same_place_equiv p q (λ x same. ap p (same_place_is q x same)) m.places.keys ∙ held (list_any (same_place q) m.places.keys) (p q) (λ lit. there q lit))
  where
    held : (a b : Bool) → (b ≡ true → a ≡ true) → (a && b) ≡ b
    held true b h = refl
    held false true h = h refl
    held false false h = refl

    there : (q : Place) → list_any (same_place q) (map tile_of (in_order (set_of m))) ≡ true → list_any (same_place q) m.places.keys ≡ true
    there q lit =
        let l = lives_there (set_of m) q lit in
        let within = live_index m.places.keys m.rows.items l.x l.y tiled.rows (ap (λ (s : Plane). s l.x l.y) (sym (alive-set_of m tiled)) ∙ l.lives) in
        let has : HasTile m.places.keys (part l.x) (part l.y) = record { index = index_of m.places.keys (part l.x) (part l.y); at = tile_at_index m.places.keys (part l.x) (part l.y) within } in
        member_from m.places.keys q (subst (λ (r : Place). HasTile m.places.keys r.column r.row) l.is has)
