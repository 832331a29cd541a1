-- Tiles that are made about live cells.
use Rattle.std.proofs.Common.{◌≡◌, ℕ, ◌+◌, ◌*◌, ◌^◌, ◌<◌, true, ℤ, pos, ◌+ℤ◌, ◌-ℤ◌, ◌*ℤ◌, ◌≤ℤ◌, List, length, slice_get, slice_index, Some, sym, ap, subst, ◌∙◌, arith, inl, inr}
use Rattle.std.proofs.lemmas.Int.{ints}
use Rattle.life_cells.specs.Boxes.{IsInRange}
use Rattle.life_kernel.specs.Rows.{test}
use Rattle.life_kernel.specs.Words.{Words, part, offset, plane_of_words}
use Rattle.life_kernel.specs.WordLaws.{part_and_offset, offset_below}
use Rattle.life_plane.specs.Apart.{Within}
use Rattle.life_plane.specs.Plane.{Plane}
use Rattle.life_tiles.specs.declared.place.Place.{Place}
use Rattle.life_tiles.specs.declared.span.Span.{Span}
use Rattle.life_tiles.specs.declared.tile_map.TileMap.{TileMap}
use Rattle.life_tiles.specs.Spans.{InSpan, IsAwake, span_of}
use Rattle.life_tiles.specs.Stepping.{IsSettled}
use Rattle.life_tiles.specs.Tiling.{place, index_of, neighbour, HasTile, HasNeighbour, IsLink, IsWithin, IsTiled, OnlyMakes, IsSurrounded, IsClosed, cells_of}
use Rattle.life_tiles.proofs.Beside.{beside}
use Rattle.life_tiles.proofs.Woken.{in_or_out}
use Rattle.life_tiles.proofs.Stepped.{cell_at}
use Rattle.life_tiles.proofs.Tiling.{tile_at_index, live_index}

-- ---- made tiles stay

pub has_more : (before after : TileMap) (column row : ℤ) → OnlyMakes before after → HasTile before.places.keys column row → HasTile after.places.keys column row
has_more before after column row makes has = record { index = has.index; at = makes.keeps has.index (place column row) has.at }

-- a link to a tile tells that it is there
pub linked_tile : (places : List Place) (p : Place) (link : ℕ) → IsLink places p link → link < length places → HasTile places p.column p.row
linked_tile places p link is lt =
    let index = is.index in
    let within : index_of places p.column p.row < length places = omega arith in
    record { index = index_of places p.column p.row; at = tile_at_index places p.column p.row within }

-- ---- about one tile

-- a tile with a live cell is close
pub close_live : (s : Plane) (p : Place) (x y : ℤ) → IsInRange (2 ^ 61) s → place (part x) (part y) ≡ p → s x y ≡ true → IsWithin (2 ^ 55) p
close_live s p x y range is live =
    let xs = part_and_offset x in
    let ys = part_and_offset y in
    let right = offset_below x in
    let down = offset_below y in
    let a = range.x_low x y live in
    let b = range.x_high x y live in
    let d = range.y_low x y live in
    let e = range.y_high x y live in
    subst (IsWithin (2 ^ 55)) is (record { left = omega (arith, ints); right = omega (arith, ints); top = omega (arith, ints); bottom = omega (arith, ints) })

-- what is made for one row of places
pub record MakesRow (after : TileMap) (column row : ℤ) (word : ℕ) : Type 0 where
  pub about : (k : ℕ) (x a : ℤ) → k < 64 → test word k ≡ true → x ≡ pos 64 *ℤ column +ℤ pos k → a ≤ℤ (x +ℤ pos 1) → x ≤ℤ (a +ℤ pos 1) → HasTile after.places.keys (part a) row

-- a row is made by its tile and those beside it
pub row_made : (after : TileMap) (column row : ℤ) (word : ℕ) → ((k : ℕ) → test word k ≡ true → HasTile after.places.keys column row) → (test word 0 ≡ true → HasTile after.places.keys (column -ℤ pos 1) row)
    → (test word 63 ≡ true → HasTile after.places.keys (column +ℤ pos 1) row) → MakesRow after column row word
row_made after column row word here west east = record {
  about = λ k x a h live is right left. elim (beside column k x a h is right left).cases [
    | inl same ↦ subst (λ d. HasTile after.places.keys d row) (sym same) (here k live)
    | inr (inl left_end) ↦ subst (λ d. HasTile after.places.keys d row) (sym left_end.1) (west (ap (test word) (sym left_end.0) ∙ live))
    | inr (inr right_end) ↦ subst (λ d. HasTile after.places.keys d row) (sym right_end.1) (east (ap (test word) (sym right_end.0) ∙ live))
  ];
}

pub row_kept : (before after : TileMap) (column row : ℤ) (word : ℕ) → OnlyMakes before after → MakesRow before column row word → MakesRow after column row word
row_kept before after column row word makes row_made = record { about = λ k x a h t e r l. has_more before after (part a) row makes (row_made.about k x a h t e r l) }

-- a tile in a direction is the tile at a place
pub at_neighbour : (after : TileMap) (p : Place) (direction : ℕ) (column row : ℤ) → (neighbour p direction).column ≡ column → (neighbour p direction).row ≡ row → HasNeighbour after.places.keys p direction → HasTile after.places.keys column row
at_neighbour after p direction column row c r has = subst (λ d. HasTile after.places.keys d row) c (subst (λ e. HasTile after.places.keys (neighbour p direction).column e) r has)

module _ (before after : TileMap) (index : ℕ) (p : Place) (tiled : IsTiled before) (at : slice_get before.places.keys index ≡ Some p) where
  pub surrounded : (span : Span) (top any bottom : ℕ) → span_of before.awake.items index ≡ span → top ≡ slice_index before.rows.items (64 * index) → bottom ≡ slice_index before.rows.items (64 * index + 63)
      → ((down k : ℕ) → InSpan span down → test (slice_index before.rows.items (64 * index + down)) k ≡ true → test any k ≡ true)
      → MakesRow after p.column (p.row -ℤ pos 1) top → MakesRow after p.column p.row any → MakesRow after p.column (p.row +ℤ pos 1) bottom → IsSurrounded before after index
  surrounded span top any bottom span_is top_is bottom_is any_has above here below = record { about = λ x y a b there awake live w. by x y a b there awake live w }
    where
      by : (x y a b : ℤ) → slice_get before.places.keys index ≡ Some (place (part x) (part y)) → IsAwake before.awake.items index (offset y) → cells_of before x y ≡ true → Within (pos 1) x y a b → HasTile after.places.keys (part a) (part b)
      by x y a b there awake live w =
          let is : place (part x) (part y) ≡ p = cc in
          let columns : part x ≡ p.column = ap (λ (q : Place). q.column) is in
          let rows : part y ≡ p.row = ap (λ (q : Place). q.row) is in
          let lit : test (slice_index before.rows.items (64 * index + offset y)) (offset x) ≡ true = sym (cell_at before.places.keys before.rows.items index x y tiled.distinct there) ∙ live in
          let x_is : x ≡ pos 64 *ℤ p.column +ℤ pos (offset x) = part_and_offset x ∙ ap (λ d. pos 64 *ℤ d +ℤ pos (offset x)) columns in
          let y_is : y ≡ pos 64 *ℤ p.row +ℤ pos (offset y) = part_and_offset y ∙ ap (λ d. pos 64 *ℤ d +ℤ pos (offset y)) rows in
          let below_64 = offset_below x in
          elim (beside p.row (offset y) y b (offset_below y) y_is w.below w.above).cases [
            | inl same ↦ subst (HasTile after.places.keys (part a)) (sym same) (here.about (offset x) x a below_64 (any_has (offset y) (offset x) (subst (λ (s : Span). InSpan s (offset y)) span_is awake) lit) x_is w.right w.left)
            | inr (inl up) ↦
                let word : 64 * index + offset y ≡ 64 * index = (let none = up.0 in omega arith) in
                subst (HasTile after.places.keys (part a)) (sym up.1)
                (above.about (offset x) x a below_64 (ap (λ n. test n (offset x)) (top_is ∙ ap (slice_index before.rows.items) (sym word)) ∙ lit) x_is w.right w.left)
            | inr (inr down) ↦
                let word : 64 * index + offset y ≡ 64 * index + 63 = ap (λ n. 64 * index + n) down.0 in
                subst (HasTile after.places.keys (part a)) (sym down.1)
                (below.about (offset x) x a below_64 (ap (λ n. test n (offset x)) (bottom_is ∙ ap (slice_index before.rows.items) (sym word)) ∙ lit) x_is w.right w.left)
          ]

-- ---- about each tile

pub surrounded_still : (first before after : TileMap) (index : ℕ) → OnlyMakes before after → IsSurrounded first before index → IsSurrounded first after index
surrounded_still first before after index makes done = record { about = λ x y a b at awake live w. has_more before after (part a) (part b) makes (done.about x y a b at awake live w) }

pub surrounded_from : (first before after : TileMap) (index : ℕ) → index < length first.places.keys → OnlyMakes first before → IsSurrounded before after index → IsSurrounded first after index
surrounded_from first before after index lt makes done = record {
  about = λ x y a b at awake live w. done.about x y a b (makes.keeps index _ at) (makes.awake index (offset y) lt awake) (ap (λ (ws : Words). plane_of_words ws x y) makes.words ∙ live) w;
}

pub closed_all : (first after : TileMap) → IsTiled first → IsSettled first → OnlyMakes first after → ((i : ℕ) → i < length first.places.keys → IsSurrounded first after i) → IsClosed after.places.keys (cells_of after)
closed_all first after tiled settled makes done = record {
  about = λ x y a b live w.
      let lit : cells_of first x y ≡ true = ap (λ (ws : Words). plane_of_words ws x y) (sym makes.words) ∙ live in
      let i = index_of first.places.keys (part x) (part y) in
      let within = live_index first.places.keys first.rows.items x y tiled.rows lit in
      let there = tile_at_index first.places.keys (part x) (part y) within in
      elim (in_or_out (span_of first.awake.items (index_of first.places.keys (part x) (part y))) (offset y)) [
        | inl awake ↦ (done (index_of first.places.keys (part x) (part y)) within).about x y a b there awake lit w
        | inr asleep ↦ has_more first after (part a) (part b) makes (settled.closed (index_of first.places.keys (part x) (part y)) x y a b (record { at = there; asleep = asleep }) lit w)
      ];
}
