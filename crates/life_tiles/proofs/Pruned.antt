-- Tiles that are given back.
use Rattle.std.proofs.Common.{◌≡◌, ◌≢◌, ◌⊎◌, ℕ, ◌+◌, ◌-◌, ◌*◌, ◌^◌, ◌<◌, ◌≤◌, ◌==◌, Bool, true, false, ℤ, pos, List, [], ◌∷◌, ◌++◌, length, slice_get, slice_index, Some, Ok, Err, refl, sym, ap, subst, ◌∙◌, arith, inl, inr, w64, length-append}
use Rattle.std.specs.Int.{trailing_zeros}
use Rattle.std.specs.List.{IsDistinct, list_any}
use Rattle.std.specs.Prelude.{Result, IsOk, IfOk}
use Rattle.std.proofs.lemmas.Bool.{cases_lt}
use Rattle.std.proofs.lemmas.Nat.Bits.{bit_at-trailing_zeros}
use Rattle.std.proofs.lemmas.Option.{slice_get_within, slice_get-get_or}
use Rattle.indexmap.specs.IndexSet.{spare}
use Rattle.life_kernel.specs.Rows.{test}
use Rattle.life_kernel.specs.Words.{part, offset}
use Rattle.life_kernel.specs.WordLaws.{offset_below}
use Rattle.life_plane.specs.ListLaws.{same_item}
use Rattle.life_tiles.specs.declared.place.Place.{Place}
use Rattle.life_tiles.specs.declared.tile_map.TileMap.{TileMap}
use Rattle.life_tiles.specs.declared.span.Span.{Span}
use Rattle.life_tiles.specs.Spans.{IsAwake}
use Rattle.life_tiles.specs.Stepping.{IsFresh}
use Rattle.life_tiles.specs.Tiling.{place, index_of, same_place, word_at, words_of, HasTile, IsTiled, AreNear, AreLinked, IsQuiet, IsEmptyTile, IsLiveTile}
use Rattle.life_tiles.proofs.Bits.{no_bit, dark_none}
use Rattle.life_tiles.specs.Pruning.{EachLives, IsKeeping, SkipsTile, KeepsTile, Keeps}
use Rattle.life_tiles.proofs.Tiling.{no_word, index_is, index_within, tile_at_index, member_at, slice_get_left, last_item, pushed_item}

abbrev pub none : Place
none = place (pos 0) (pos 0)

-- ---- live cells

-- a tile of which no column has a live cell is empty
pub empty_tile : (rows words : List ℕ) (index any : ℕ) → words ≡ rows → any ≡ 0 → ((j k : ℕ) → 64 * index ≤ j → j < 64 * index + 64 → test (slice_index words j) k ≡ true → test any k ≡ true) → IsEmptyTile rows index
empty_tile rows words index any same none has = record {
  words = λ down h. no_bit (slice_index rows (64 * index + down)) (λ k live. dark_none any k none (has (64 * index + down) k (omega arith) (omega arith) (ap (λ (ws : List ℕ). test (slice_index ws (64 * index + down)) k) same ∙ live)));
}

-- a tile of which some column has a live cell has one
pub live_tile : (rows words : List ℕ) (index any : ℕ) → words ≡ rows → any ≢ 0 → any < 2 ^ 64 → ((k : ℕ) → test any k ≡ true → (j : ℕ) × (64 * index ≤ j) × (j < 64 * index + 64) × (test (slice_index words j) k ≡ true)) → IsLiveTile rows index
unfolding test
live_tile rows words index any same other fits has =
    let some : 0 < any = omega arith in
    let first = bit_at-trailing_zeros w64 any some fits in
    let found = has _ (ap (λ n. n == 1) first.1) in
    let low = found.1 in
    let high = found.2 in
    let is : 64 * index + (found.0 - 64 * index) ≡ found.0 = omega arith in
    record {
      down = found.0 - 64 * index;
      right = trailing_zeros w64 any;
      below = omega arith;
      within = first.0;
      lives = ap (λ j. test (slice_index rows j) (trailing_zeros w64 any)) is ∙ ap (λ (ws : List ℕ). test (slice_index ws found.0) (trailing_zeros w64 any)) (sym same) ∙ found.3;
    }

-- what holds where a call succeeds
pub from_ok : {T E : Type 0} (r : Result T E) (P : Type 0) → IsOk r → IfOk r (λ x. P) → P
from_ok (Ok x) P ok h = h
from_ok (Err e) P ok h = cc

-- ---- tile by tile

-- the tile at the index is none of those that are kept
pub fresh_none : (m : TileMap) (index : ℕ) (p : Place) → IsKeeping m index → slice_get m.places.keys index ≡ Some p → list_any (same_place p) m.kept.keys ≡ false
fresh_none m index p keeping at = by (list_any (same_place p) m.kept.keys) refl
  where
    by : (b : Bool) → list_any (same_place p) m.kept.keys ≡ b → list_any (same_place p) m.kept.keys ≡ false
    by false e = e
    by true e = let has = member_at m.kept.keys p e in absurd (keeping.fresh has.index p has.at at)

-- the tile that is kept k-th has the words of a live tile
pub record IsKept (first now : TileMap) (index k : ℕ) (p : Place) : Type 0 where
  pub from : ℕ
  pub before : from < index
  pub at : slice_get first.places.keys from ≡ Some p
  pub lives : IsLiveTile first.rows.items from
  pub words : (down : ℕ) → down < 64 → slice_index now.rows.items (64 * k + down) ≡ slice_index first.rows.items (64 * from + down)

-- the tiles before this index are looked at
pub record KeepsTo (first now : TileMap) (index : ℕ) : Type 0 where
  pub places : now.places ≡ first.places
  pub next : now.next ≡ first.next
  pub beside : now.beside ≡ first.beside
  pub awake : now.awake ≡ first.awake
  pub waking : now.waking ≡ first.waking
  pub room : now.room ≡ first.room
  pub spare : now.room ≤ length now.kept.keys + spare now.kept
  pub distinct : IsDistinct same_place now.kept.keys
  pub long : length now.rows.items ≡ length first.rows.items
  pub few : length now.kept.keys ≤ index
  pub ahead : (j : ℕ) → 64 * index ≤ j → slice_index now.rows.items j ≡ slice_index first.rows.items j
  pub kept : (k : ℕ) (p : Place) → slice_get now.kept.keys k ≡ Some p → IsKept first now index k p
  pub all : (i : ℕ) (p : Place) → i < index → slice_get first.places.keys i ≡ Some p → IsEmptyTile first.rows.items i ⊎ HasTile now.kept.keys p.column p.row

pub distinct_none : (eq : Place → Place → Bool) (ks : List Place) → ks ≡ [] → IsDistinct eq ks
unfolding IsDistinct
distinct_none eq ks e = subst (IsDistinct eq) (sym e) tt

pub none_there : (ks : List Place) (k : ℕ) (p : Place) → ks ≡ [] → slice_get ks k ≡ Some p → ⊥
none_there ks k p e h = let no : slice_get [] k ≡ Some p = ap (λ (xs : List Place). slice_get xs k) (sym e) ∙ h in cc

pub keeps_begin : (first : TileMap) → IsTiled first → KeepsTo first first 0
keeps_begin first tiled = record {
  places = refl;
  next = refl;
  beside = refl;
  awake = refl;
  waking = refl;
  room = refl;
  spare = tiled.room.kept;
  distinct = distinct_none same_place first.kept.keys tiled.none;
  long = refl;
  few = omega (arith, ap (λ (ks : List Place). length ks) tiled.none);
  ahead = λ j h. refl;
  kept = λ k p h. absurd (none_there first.kept.keys k p tiled.none h);
  all = λ i p lt. absurd (omega arith);
}

module _ (first now : TileMap) (index : ℕ) (tiled : IsTiled first) (within : index < length first.places.keys) (done : KeepsTo first now index) where
  keys_same : now.places.keys ≡ first.places.keys
  keys_same = rw done.places refl

  -- the tile at the index is none of those that are kept
  pub is_keeping : IsKeeping now index
  is_keeping =
      let few = tiled.room.few in
      let same = done.room in
      let long = tiled.rows.long in
      let still = done.long in
      record {
        few = done.few;
        room = omega arith;
        spare = done.spare;
        long = omega arith;
        fresh = λ k p kept here.
            let was = done.kept k p kept in
            let a = index_is first.places.keys was.from p tiled.distinct was.at in
            let b = index_is first.places.keys index p tiled.distinct (ap (λ (ks : List Place). slice_get ks index) (sym keys_same) ∙ here) in
            let before = was.before in
            omega arith;
      }

  module _ (after : TileMap) (keeps : Keeps now after index) where
    skipped : SkipsTile now after index → KeepsTo first after (index + 1)
    skipped skips = record {
      places = keeps.places ∙ done.places;
      next = keeps.next ∙ done.next;
      beside = keeps.beside ∙ done.beside;
      awake = keeps.awake ∙ done.awake;
      waking = keeps.waking ∙ done.waking;
      room = keeps.room ∙ done.room;
      spare = keeps.spare;
      distinct = keeps.distinct done.distinct;
      long = keeps.long ∙ done.long;
      few = (let few = done.few in omega (arith, ap (λ (ks : List Place). length ks) skips.kept));
      ahead = λ j h. skips.rows j ∙ done.ahead j (omega arith);
      kept = λ k p h.
          let was = done.kept k p (ap (λ (ks : List Place). slice_get ks k) (sym skips.kept) ∙ h) in
          record { from = was.from; before = (let lt = was.before in omega arith); at = was.at; lives = was.lives; words = λ down lt. skips.rows (64 * k + down) ∙ was.words down lt };
      all = λ i p lt h. elim (cases_lt i index) [
        | inl less ↦ elim (done.all i p less h) [ inl empty ↦ inl empty | inr there ↦ inr (subst (λ (ks : List Place). HasTile ks p.column p.row) (sym skips.kept) there) ]
        | inr ge ↦
            let same : index ≡ i = omega arith in
            inl (subst (IsEmptyTile first.rows.items) same (record { words = λ down below. sym (done.ahead (64 * index + down) (omega arith)) ∙ skips.empty.words down below }))
      ];
    }

    added : (p : Place) → slice_get first.places.keys index ≡ Some p → KeepsTile now after index → KeepsTo first after (index + 1)
    added p at adds =
        let keys : after.kept.keys ≡ now.kept.keys ++ p ∷ [] = adds.kept p (ap (λ (ks : List Place). slice_get ks index) keys_same ∙ at) in
        record {
          places = keeps.places ∙ done.places;
          next = keeps.next ∙ done.next;
          beside = keeps.beside ∙ done.beside;
          awake = keeps.awake ∙ done.awake;
          waking = keeps.waking ∙ done.waking;
          room = keeps.room ∙ done.room;
          spare = keeps.spare;
          distinct = keeps.distinct done.distinct;
          long = keeps.long ∙ done.long;
          few = (let few = done.few in omega (arith, ap (λ (ks : List Place). length ks) keys, length-append now.kept.keys (p ∷ [])));
          ahead = λ j h. let few = done.few in let past : 64 * length now.kept.keys + 64 ≤ j = omega arith in adds.others j (inr past) ∙ done.ahead j (omega arith);
          kept = λ k q h. elim (pushed_item now.kept.keys p k q (ap (λ (ks : List Place). slice_get ks k) (sym keys) ∙ h)) [
            | inl there ↦
                let was = done.kept k q there in
                let less = slice_get_within now.kept.keys k q there in
                record { from = was.from; before = (let lt = was.before in omega arith); at = was.at; lives = was.lives; words = λ down lt. adds.others (64 * k + down) (inl (omega arith)) ∙ was.words down lt }
            | inr new ↦
                let is = new.0 in
                record {
                  from = index;
                  before = omega arith;
                  at = at ∙ ap Some new.1;
                  lives = (let l = adds.lives in record { down = l.down; right = l.right; below = l.below; within = l.within; lives = ap (λ n. test n l.right) (sym (done.ahead (64 * index + l.down) (omega arith))) ∙ l.lives });
                  words = λ down lt. ap (λ n. slice_index after.rows.items (64 * n + down)) is ∙ adds.moved down lt ∙ done.ahead (64 * index + down) (omega arith);
                }
          ];
          all = λ i q lt h. elim (cases_lt i index) [
            | inl less ↦ elim (done.all i q less h) [
              | inl empty ↦ inl empty
              | inr there ↦ inr (record { index = there.index; at = ap (λ (ks : List Place). slice_get ks there.index) keys ∙ slice_get_left now.kept.keys (p ∷ []) there.index _ there.at })
            ]
            | inr ge ↦
                let same : i ≡ index = omega arith in
                let is : p ≡ q = same_item at (ap (slice_get first.places.keys) (sym same) ∙ h) in
                inr (record { index = length now.kept.keys; at = ap (λ (ks : List Place). slice_get ks (length now.kept.keys)) keys ∙ last_item now.kept.keys p ∙ ap Some is })
          ];
        }

    -- one tile more is looked at
    pub keeps_more : KeepsTo first after (index + 1)
    keeps_more = elim keeps.either [ inl skips ↦ skipped skips | inr adds ↦ added _ (slice_get-get_or first.places.keys index none within) adds ]

-- ---- all tiles

-- the tiles that are kept are near
pub kept_near : (first now : TileMap) (index : ℕ) (ks : List Place) → IsTiled first → KeepsTo first now index → ks ≡ now.kept.keys → AreNear ks
kept_near first now index ks tiled done places = record {
  each = λ i p h. let was = done.kept i p (ap (λ (xs : List Place). slice_get xs i) (sym places) ∙ h) in tiled.near.each was.from p was.at;
}

-- words that are cleared up to those that were 0
pub cleared_from : (from to : ℕ) (old new : List ℕ) → ((j : ℕ) → from ≤ j → j < to → slice_index new j ≡ 0) → ((j : ℕ) → (j < from) ⊎ (to ≤ j) → slice_index new j ≡ slice_index old j)
    → ((j : ℕ) → to ≤ j → slice_index old j ≡ 0) → (j : ℕ) → from ≤ j → slice_index new j ≡ 0
cleared_from from to old new cleared others ends j h = elim (cases_lt j to) [ inl lt ↦ cleared j h lt | inr ge ↦ others j (inr ge) ∙ ends j ge ]

module _ (first now last : TileMap) (tiled : IsTiled first) (done : KeepsTo first now (length first.places.keys)) (places : last.places.keys ≡ now.kept.keys)
    (cleared : (j : ℕ) → 64 * length now.kept.keys ≤ j → slice_index last.rows.items j ≡ 0)
    (others : (j : ℕ) → j < 64 * length now.kept.keys → slice_index last.rows.items j ≡ slice_index now.rows.items j) where
  word_stays : (c y : ℤ) → (index_of now.kept.keys c (part y) < length now.kept.keys) ⊎ (length now.kept.keys ≤ index_of now.kept.keys c (part y)) → word_at now.kept.keys last.rows.items c y ≡ word_at first.places.keys first.rows.items c y
  unfolding word_at
  word_stays c y (inl lt) =
      let k = index_of now.kept.keys c (part y) in
      let was = done.kept (index_of now.kept.keys c (part y)) (place c (part y)) (tile_at_index now.kept.keys c (part y) lt) in
      let down = offset_below y in
      let here : 64 * index_of now.kept.keys c (part y) + offset y < 64 * length now.kept.keys = omega arith in
      others (64 * index_of now.kept.keys c (part y) + offset y) here ∙ was.words (offset y) down
      ∙ ap (λ n. slice_index first.rows.items (64 * n + offset y)) (sym (index_is first.places.keys was.from (place c (part y)) tiled.distinct was.at))
  word_stays c y (inr ge) =
      cleared (64 * index_of now.kept.keys c (part y) + offset y) (omega arith)
      ∙ sym (elim (cases_lt (index_of first.places.keys c (part y)) (length first.places.keys)) [
        | inl lt ↦ elim (done.all (index_of first.places.keys c (part y)) (place c (part y)) lt (tile_at_index first.places.keys c (part y) lt)) [
          | inl empty ↦ empty.words (offset y) (offset_below y)
          | inr has ↦ let within = index_within now.kept.keys c (part y) has in absurd (omega arith)
        ]
        | inr none ↦ no_word first.places.keys first.rows.items c y tiled.rows none
      ])

  -- no word changes where empty tiles are given back
  pub words_stay : words_of last ≡ words_of first
  words_stay = ap (λ ks. word_at ks last.rows.items) places ∙ (λ l c y. word_stays c y (cases_lt (index_of now.kept.keys c (part y)) (length now.kept.keys)) l)

  -- what holds of tiles holds of those that are left
  pub left_tiled : length last.rows.items ≡ length now.rows.items → length last.next.items ≡ length first.next.items → ((j : ℕ) → 64 * length now.kept.keys ≤ j → slice_index last.next.items j ≡ 0)
      → last.room ≡ now.room → spare last.places ≡ spare now.kept → last.kept.keys ≡ [] → length first.places.keys + spare first.places ≤ spare last.kept
      → AreLinked last.places.keys last.beside.items → length last.beside.items ≡ length first.beside.items → length last.awake.items ≡ length first.awake.items → last.waking ≡ first.waking → IsTiled last
  left_tiled rows_same next_same next_cleared room_same spares emptied freed links beside_same awake_same waking_is =
      let few = done.few in
      let count : length last.places.keys ≡ length now.kept.keys = ap (λ (ks : List Place). length ks) places in
      let others_count : length last.kept.keys ≡ 0 = ap (λ (ks : List Place). length ks) emptied in
      let waking_same : length last.waking.items ≡ length first.waking.items = rw waking_is refl in
      let was_few = tiled.room.few in
      let was_places = tiled.room.places in
      let was_rows = tiled.room.rows in
      let was_next = tiled.room.next in
      let was_beside = tiled.room.beside in
      let was_awake = tiled.room.awake in
      let was_waking = tiled.room.waking in
      let uses = done.spare in
      let same = done.room in
      let long = done.long in
      record {
        distinct = subst (IsDistinct same_place) (sym places) done.distinct;
        rows = record { long = omega arith; ends = λ j h. cleared j (omega arith) };
        next = record { long = omega arith; ends = λ j h. next_cleared j (omega arith) };
        near = kept_near first now (length first.places.keys) last.places.keys tiled done places;
        links = links;
        room = record { few = omega arith; places = omega arith; kept = omega arith; rows = omega arith; next = omega arith; beside = omega arith; awake = omega arith; waking = omega arith };
        none = emptied;
      }

  pub left_fresh : ((i row : ℕ) → i < length now.kept.keys → row < 64 → IsAwake last.awake.items i row) → last.waking ≡ first.waking → IsQuiet first → IsFresh last
  left_fresh all waking_is quiet =
      let few = done.few in
      let count : length last.places.keys ≡ length now.kept.keys = ap (λ (ks : List Place). length ks) places in
      record {
        awake = λ i row lt below. all i row (omega arith) below;
        quiet = record { each = λ i row lt is. let waking_same : last.waking.items ≡ first.waking.items = rw waking_is refl in quiet.each i row (omega arith) (subst (λ (spans : List Span). IsAwake spans i row) waking_same is) };
      }

  -- and each tile that is left has a live cell
  pub each_lives : EachLives last
  each_lives = record {
    each = λ i h.
        let few : i < length now.kept.keys = omega (arith, ap (λ (ks : List Place). length ks) places) in
        let was = done.kept i _ (slice_get-get_or now.kept.keys i none few) in
        let l = was.lives in
        let below = l.below in
        record { down = l.down; right = l.right; below = l.below; within = l.within; lives = ap (λ n. test n l.right) (others (64 * i + l.down) (omega arith) ∙ was.words l.down l.below) ∙ l.lives };
  }
