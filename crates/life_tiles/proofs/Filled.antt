-- What a step of one tile leaves, and of all.
use Rattle.std.proofs.Common.{◌≡◌, ◌≢◌, ◌⊎◌, ℕ, ◌+◌, ◌*◌, ◌<◌, ◌≤◌, min, Bool, true, false, ℤ, pos, ◌+ℤ◌, ◌*ℤ◌, List, length, set, slice_get, slice_index, Some, refl, sym, ap, subst, ◌∙◌, arith, inl, inr}
use Rattle.std.proofs.lemmas.Bool.{cases_lt}
use Rattle.std.proofs.lemmas.List.{length-set}
use Rattle.std.proofs.lemmas.Option.{slice_get_within}
use Rattle.std.specs.List.{IsDistinct}
use Rattle.life_kernel.specs.BitLaws.{xor, test-xor}
use Rattle.life_kernel.specs.Rows.{test}
use Rattle.life_kernel.specs.Words.{part, offset}
use Rattle.life_kernel.specs.WordLaws.{part_and_offset, offset_below}
use Rattle.life_plane.specs.Apart.{Within}
use Rattle.life_plane.specs.ListLaws.{same_item}
use Rattle.life_plane.specs.Plane.{step}
use Rattle.life_tiles.specs.declared.place.Place.{Place}
use Rattle.life_tiles.specs.declared.span.Span.{Span}
use Rattle.life_tiles.specs.Spans.{InSpan, IsAwake, OnlyWakes, WakesAbout, span_of}
use Rattle.indexmap.specs.IndexSet.{spare}
use Rattle.life_tiles.specs.declared.tile_map.TileMap.{TileMap}
use Rattle.life_tiles.specs.Rows.{HasAbout, FillsRows}
use Rattle.life_tiles.specs.Tiling.{place, same_place, neighbour, cells_in, IsTiled, AreLinked, AreAbout}
use Rattle.life_tiles.specs.Stepping.{IsAsleep, IsGrid, IsSteppedTile, IsMarkedTile, FillsTile, FillsAll}
use Rattle.life_tiles.proofs.Bits.{no_bit_set}
use Rattle.life_tiles.proofs.Stepped.{cell_at, about-4, bit_stepped, wake_reaches}
use Rattle.life_tiles.proofs.Tiling.{index_is, index_at_most}
use Rattle.life_tiles.proofs.Woken.{in_or_out, wakes_none, wakes_both, set_here, set_there}

unchanged : (a b : Bool) → xor a b ≡ false → b ≡ a
unchanged true true h = refl
unchanged true false h = cc
unchanged false b h = h

-- words that are the same in a tile tell the same cells
pub same_cell : (places : List Place) (before after : List ℕ) (i : ℕ) (x y : ℤ) → IsDistinct same_place places → slice_get places i ≡ Some (place (part x) (part y)) → slice_index after (64 * i + offset y) ≡ slice_index before (64 * i + offset y)
    → cells_in places after x y ≡ cells_in places before x y
same_cell places before after i x y distinct at same = cell_at places after i x y distinct at ∙ ap (λ w. test w (offset x)) same ∙ sym (cell_at places before i x y distinct at)

-- ---- one tile

-- the tiles that links tell
pub are_about : (places : List Place) (beside about : List ℕ) (index count : ℕ) → AreLinked places beside → count ≡ length places → ((direction : ℕ) → direction < 9 → slice_index about direction ≡ min (slice_index beside (9 * index + direction)) count) → AreAbout places index about
are_about places beside about index count linked all each = record { each = λ direction p at below. each direction below ∙ ap (min (slice_index beside (9 * index + direction))) all ∙ (linked.each index direction p at below).index }

pub has_about : (places : List Place) (rows next beside about : List ℕ) (index : ℕ) (p : Place) → IsGrid places rows beside → 64 * length places ≤ length next → slice_get places index ≡ Some p → AreAbout places index about → HasAbout about rows next
has_about places rows next beside about index p grid long at are =
    let room = grid.room in
    let within = slice_get_within places index p at in
    let own : slice_index about 4 ≡ index = about-4 places about index p at are ∙ index_is places index p grid.distinct at in
    record {
      have = record { each = λ direction below. let is = are.each direction p at below in let most = index_at_most places (neighbour p direction).column (neighbour p direction).row in omega arith };
      room = omega arith;
    }

-- a tile whose rows are put to sleep
put_asleep : (spans : List Span) (index : ℕ) (none : Span) → index < length spans → ((row : ℕ) → InSpan none row → ⊥) → (row : ℕ) → IsAwake (set spans index none) index row → ⊥
put_asleep spans index none within no_row row awake = no_row row (subst (λ (s : Span). InSpan s row) (set_here spans index none within) awake)

-- a tile of which no row is awake is stepped already
pub fills_rested : (places : List Place) (rows next : List ℕ) (awake waking : List Span) (index : ℕ) (none : Span) → index < length awake → ((row : ℕ) → InSpan none row → ⊥) → ((row : ℕ) → IsAwake awake index row → ⊥)
    → ((x y : ℤ) → IsAsleep places awake index x y → cells_in places next x y ≡ step (cells_in places rows) x y) → FillsTile places rows next next awake (set awake index none) waking waking index
fills_rested places rows next awake waking index none within no_row asleep rested = record {
  long = refl;
  outside = λ j h. refl;
  stepped = record { each = λ x y at. rested x y (record { at = at; asleep = asleep (offset y) }) };
  awake_long = length-set awake index none;
  others = set_there awake index none within;
  asleep = put_asleep awake index none within no_row;
  wakes = wakes_none waking;
  marked = record { each = λ i x y a b at asleep near. refl };
}

module _ (places : List Place) (rows about before after old_changes changes : List ℕ) (index : ℕ) (p : Place) (span : Span) (distinct : IsDistinct same_place places) (at : slice_get places index ≡ Some p) (are : AreAbout places index about)
    (fills : FillsRows rows about before after old_changes changes span.from span.to) where
  own_index : slice_index about 4 ≡ index
  own_index = about-4 places about index p at are ∙ index_is places index p distinct at

  pub outside : (j : ℕ) → (j < 64 * index) ⊎ (64 * index + 64 ≤ j) → slice_index after j ≡ slice_index before j
  outside j h =
      let own = own_index in
      let fits = span.fits in
      elim h [ inl lt ↦ fills.outside j (inl (omega arith)) | inr ge ↦ fills.outside j (inr (omega arith)) ]

  asleep_same : (row : ℕ) → row < 64 → (InSpan span row → ⊥) → slice_index after (64 * index + row) ≡ slice_index before (64 * index + row)
  asleep_same row below out =
      let own = own_index in
      elim (cases_lt row span.from) [
        | inl lt ↦ fills.outside (64 * index + row) (inl (omega arith))
        | inr ge ↦ elim (cases_lt row span.to) [ inl lt ↦ absurd (out (record { from = ge; to = lt })) | inr past ↦ fills.outside (64 * index + row) (inr (omega arith)) ]
      ]

  -- each cell of the tile is stepped
  pub stepped : ((x y : ℤ) → slice_get places index ≡ Some (place (part x) (part y)) → (InSpan span (offset y) → ⊥) → cells_in places before x y ≡ step (cells_in places rows) x y) → IsSteppedTile places rows after index
  stepped rested = record { each = λ x y there. by x y there (in_or_out span (offset y)) }
    where
      by : (x y : ℤ) → slice_get places index ≡ Some (place (part x) (part y)) → (InSpan span (offset y)) ⊎ (InSpan span (offset y) → ⊥) → cells_in places after x y ≡ step (cells_in places rows) x y
      by x y there (inl inside) =
          let is : p ≡ place (part x) (part y) = same_item at there in
          let xs : x ≡ pos 64 *ℤ p.column +ℤ pos (offset x) = part_and_offset x ∙ ap (λ (q : Place). pos 64 *ℤ q.column +ℤ pos (offset x)) (sym is) in
          let ys : y ≡ pos 64 *ℤ p.row +ℤ pos (offset y) = part_and_offset y ∙ ap (λ (q : Place). pos 64 *ℤ q.row +ℤ pos (offset y)) (sym is) in
          cell_at places after index x y distinct there ∙ ap (λ n. test (slice_index after (64 * n + offset y)) (offset x)) (sym own_index)
          ∙ bit_stepped places about index p at are rows (offset y) (offset x) (slice_index after (64 * slice_index about 4 + offset y)) x y (offset_below y) (offset_below x) xs ys (fills.inside (offset y) inside.from inside.to)
      by x y there (inr out) = same_cell places before after index x y distinct there (asleep_same (offset y) (offset_below y) out) ∙ rested x y there out

  -- a cell changes only where all rows beside it wake
  pub marked : (waking_before waking_after : List Span) (changed : Span) (columns : ℕ) → length places ≤ length waking_before → WakesAbout waking_before waking_after about changed columns
      → ((down : ℕ) → InSpan span down → (InSpan changed down → ⊥) → slice_index changes down ≡ 0)
      → ((down k : ℕ) → InSpan span down → test (slice_index changes down) k ≡ true → test columns k ≡ true) → IsMarkedTile places before after waking_after index
  marked waking_before waking_after changed columns long wakes in_rows in_columns = record { each = λ i x y a b there asleep near. by i x y a b there asleep near (in_or_out span (offset b)) }
    where
      is_in : (down k : ℕ) → InSpan span down → test (slice_index changes down) k ≡ true → (InSpan changed down) ⊎ (InSpan changed down → ⊥) → InSpan changed down
      is_in down k inside lit (inl here) = here
      is_in down k inside lit (inr out) = absurd (no_bit_set k (ap (λ w. test w k) (sym (in_rows down inside out)) ∙ lit))

      bit : (i : ℕ) (x y a b : ℤ) → slice_get places index ≡ Some (place (part a) (part b)) → IsAsleep places waking_after i x y → Within (pos 1) x y a b → InSpan span (offset b) → (t : Bool) → test (slice_index changes (offset b)) (offset a) ≡ t
          → cells_in places after a b ≡ cells_in places before a b
      bit i x y a b there asleep near inside true lit =
          absurd (asleep.asleep (wake_reaches places about index p at are waking_before waking_after changed columns a b x y i distinct long wakes (same_item there at)
          (is_in (offset b) (offset a) inside lit (in_or_out changed (offset b))) (in_columns (offset b) (offset a) inside lit) near (slice_get_within places i _ asleep.at) asleep.at))
      bit i x y a b there asleep near inside false dark =
          let own = own_index in
          cell_at places after index a b distinct there
          ∙ ap (λ n. test (slice_index after (64 * n + offset b)) (offset a)) (sym own_index)
          ∙ unchanged _ _ (sym (test-xor (slice_index before (64 * slice_index about 4 + offset b)) (slice_index after (64 * slice_index about 4 + offset b)) (offset a)) ∙ ap (λ w. test w (offset a)) (sym (fills.changed (offset b) inside.from inside.to)) ∙ dark)
          ∙ ap (λ n. test (slice_index before (64 * n + offset b)) (offset a)) own_index
          ∙ sym (cell_at places before index a b distinct there)

      by : (i : ℕ) (x y a b : ℤ) → slice_get places index ≡ Some (place (part a) (part b)) → IsAsleep places waking_after i x y → Within (pos 1) x y a b → (InSpan span (offset b)) ⊎ (InSpan span (offset b) → ⊥)
          → cells_in places after a b ≡ cells_in places before a b
      by i x y a b there asleep near (inl inside) = bit i x y a b there asleep near inside (test (slice_index changes (offset b)) (offset a)) refl
      by i x y a b there asleep near (inr out) = same_cell places before after index a b distinct there (asleep_same (offset b) (offset_below b) out)

  -- the tile is stepped, and its rows are put to sleep
  pub fills_stepped : (awake waking waking_after : List Span) (none changed : Span) (columns : ℕ) → length after ≡ length before → index < length awake → ((row : ℕ) → InSpan none row → ⊥) → span_of awake index ≡ span
      → ((x y : ℤ) → IsAsleep places awake index x y → cells_in places before x y ≡ step (cells_in places rows) x y) → length places ≤ length waking → WakesAbout waking waking_after about changed columns
      → ((down : ℕ) → InSpan span down → (InSpan changed down → ⊥) → slice_index changes down ≡ 0) → ((down k : ℕ) → InSpan span down → test (slice_index changes down) k ≡ true → test columns k ≡ true)
      → FillsTile places rows before after awake (set awake index none) waking waking_after index
  fills_stepped awake waking waking_after none changed columns same within no_row span_is rested long wakes in_rows in_columns = record {
    long = same;
    outside = outside;
    stepped = stepped (λ x y there out. rested x y (record { at = there; asleep = λ is. out (subst (λ (s : Span). InSpan s (offset y)) span_is is) }));
    awake_long = length-set awake index none;
    others = set_there awake index none within;
    asleep = put_asleep awake index none within no_row;
    wakes = wakes.only;
    marked = marked waking waking_after changed columns long wakes in_rows in_columns;
  }

-- ---- tile by tile

-- the tiles before this index are stepped
pub record FilledTo (places : List Place) (rows before after : List ℕ) (awake_before awake_after waking_before waking_after : List Span) (index : ℕ) : Type 0 where
  pub long : length after ≡ length before
  pub ahead : (j : ℕ) → 64 * index ≤ j → slice_index after j ≡ slice_index before j
  pub stepped : (i : ℕ) → i < index → IsSteppedTile places rows after i
  pub awake_long : length awake_after ≡ length awake_before
  pub others : (i : ℕ) → index ≤ i → span_of awake_after i ≡ span_of awake_before i
  pub asleep : (i row : ℕ) → i < index → IsAwake awake_after i row → ⊥
  pub wakes : OnlyWakes waking_before waking_after
  pub marked : (j : ℕ) → j < index → IsMarkedTile places before after waking_after j

pub filled_begin : (places : List Place) (rows next : List ℕ) (awake waking : List Span) → FilledTo places rows next next awake awake waking waking 0
filled_begin places rows next awake waking = record {
  long = refl;
  ahead = λ j h. refl;
  stepped = λ i lt. absurd (omega arith);
  awake_long = refl;
  others = λ i h. refl;
  asleep = λ i row lt. absurd (omega arith);
  wakes = record { long = refl; each = λ i row h. h };
  marked = λ j lt. absurd (omega arith);
}

module _ (places : List Place) (rows first before after : List ℕ) (first_awake awake_before awake_after first_waking waking_before waking_after : List Span) (index : ℕ) (distinct : IsDistinct same_place places)
    (done : FilledTo places rows first before first_awake awake_before first_waking waking_before index) where
  -- what was asleep in the tile at the index is so still
  pub still_rested : ((i : ℕ) (x y : ℤ) → IsAsleep places first_awake i x y → cells_in places first x y ≡ step (cells_in places rows) x y) → (x y : ℤ) → IsAsleep places awake_before index x y → cells_in places before x y ≡ step (cells_in places rows) x y
  still_rested rested x y asleep =
      let here : 64 * index ≤ 64 * index + offset y = omega arith in
      let same : index ≤ index = omega arith in
      same_cell places first before index x y distinct asleep.at (done.ahead (64 * index + offset y) here)
      ∙ rested index x y (record { at = asleep.at; asleep = λ awake. asleep.asleep (subst (λ (s : Span). InSpan s (offset y)) (sym (done.others index same)) awake) })

  module _ (fills : FillsTile places rows before after awake_before awake_after waking_before waking_after index) where
    -- cells of other tiles stay
    stays : (i : ℕ) (x y : ℤ) → i ≢ index → slice_get places i ≡ Some (place (part x) (part y)) → cells_in places after x y ≡ cells_in places before x y
    stays i x y other at =
        let below = offset_below y in
        same_cell places before after i x y distinct at (fills.outside (64 * i + offset y) (elim (cases_lt i index) [ inl lt ↦ inl (omega arith) | inr ge ↦ inr (omega arith) ]))

    pub filled_more : FilledTo places rows first after first_awake awake_after first_waking waking_after (index + 1)
    filled_more = record {
      long = fills.long ∙ done.long;
      ahead = λ j h. fills.outside j (inr (omega arith)) ∙ done.ahead j (omega arith);
      stepped = λ i lt. elim (cases_lt i index) [
        | inl less ↦ record { each = λ x y at. stays i x y (omega arith) at ∙ (done.stepped i less).each x y at }
        | inr ge ↦ let same : index ≡ i = omega arith in subst (IsSteppedTile places rows after) same fills.stepped
      ];
      awake_long = fills.awake_long ∙ done.awake_long;
      others = λ i h. fills.others i (omega arith) ∙ done.others i (omega arith);
      asleep = λ i row lt. elim (cases_lt i index) [
        | inl less ↦ λ awake. done.asleep i row less (subst (λ (s : Span). InSpan s row) (fills.others i (omega arith)) awake)
        | inr ge ↦ let same : index ≡ i = omega arith in subst (λ k. IsAwake awake_after k row → ⊥) same (fills.asleep row)
      ];
      wakes = wakes_both _ _ _ done.wakes fills.wakes;
      marked = λ j lt. elim (cases_lt j index) [
        | inl less ↦ record {
          each = λ i x y a b at asleep near.
              stays j a b (omega arith) at ∙ (done.marked j less).each i x y a b at (record { at = asleep.at; asleep = λ awake. asleep.asleep (fills.wakes.each i (offset y) awake) }) near;
        }
        | inr ge ↦
            let same : index ≡ j = omega arith in
            record {
              each = λ i x y a b at asleep near.
                  let at' : slice_get places index ≡ Some (place (part a) (part b)) = ap (slice_get places) same ∙ at in
                  let here : 64 * index ≤ 64 * index + offset b = omega arith in
                  fills.marked.each i x y a b at' asleep near ∙ same_cell places first before index a b distinct at' (done.ahead (64 * index + offset b) here);
            }
      ];
    }

pub filled_end : (places : List Place) (rows before after : List ℕ) (awake_before awake_after waking_before waking_after : List Span) → FilledTo places rows before after awake_before awake_after waking_before waking_after (length places)
    → FillsAll places rows before after awake_before awake_after waking_before waking_after
filled_end places rows before after awake_before awake_after waking_before waking_after done = record {
  long = done.long;
  outside = done.ahead;
  stepped = done.stepped;
  awake_long = done.awake_long;
  asleep = done.asleep;
  wakes = done.wakes;
  marked = done.marked;
}

-- what holds of tiles still does
pub filled_tiled : (before after : TileMap) → IsTiled before → after.places ≡ before.places → after.kept ≡ before.kept → after.rows ≡ before.rows → after.beside ≡ before.beside → after.room ≡ before.room
    → FillsAll before.places.keys before.rows.items before.next.items after.next.items before.awake.items after.awake.items before.waking.items after.waking.items → IsTiled after
filled_tiled before after tiled places kept rows beside room fills =
    let long = tiled.next.long in
    let same = fills.long in
    let awake_same = fills.awake_long in
    let waking_same = fills.wakes.long in
    let awake_room = tiled.room.awake in
    let waking_room = tiled.room.waking in
    let next_room = tiled.room.next in
    let count : length after.places.keys ≡ length before.places.keys = rw places refl in
    let spares : spare after.places ≡ spare before.places = rw places refl in
    let few = tiled.room.few in
    let all = tiled.room.places in
    record {
      distinct = rw places tiled.distinct;
      rows = rw (places, rows) tiled.rows;
      next = record { long = omega arith; ends = λ j past. fills.outside j (omega arith) ∙ tiled.next.ends j (omega arith) };
      near = rw places tiled.near;
      links = rw (places, beside) tiled.links;
      room = record { few = omega arith; places = omega arith; kept = rw (kept, room) tiled.room.kept; rows = rw (rows, room) tiled.room.rows; next = omega arith; beside = rw (beside, room) tiled.room.beside; awake = omega arith; waking = omega arith };
      none = rw kept tiled.none;
    }
