-- Memory for tiles.
use Rattle.std.proofs.Common.{◌≡◌, ◌≢◌, ℕ, zero, suc, pos, ◌+◌, ◌*◌, ◌^◌, ◌<◌, ◌≤◌, Bool, List, [], ◌∷◌, ◌++◌, length, get_or, set, slice_get, position, None, refl, sym, ap, subst, ◌∙◌, arith, inl, inr, length-append}
use Rattle.std.specs.Bool.{if◌then◌else◌}
use Rattle.std.specs.List.{IsDistinct, list_any}
use Rattle.std.specs.Vec.{with_item}
use Rattle.std.proofs.lemmas.Bool.{cases_lt}
use Rattle.std.proofs.lemmas.Option.{slice_get_within, slice_get-get_or}
use Rattle.indexmap.specs.IndexSet.{IndexSet, spare}
use Rattle.life_kernel.specs.Words.{plane_of_words}
use Rattle.life_tiles.specs.declared.place.Place.{Place}
use Rattle.life_tiles.specs.declared.span.Span.{Span}
use Rattle.life_tiles.specs.declared.tile_map.TileMap.{TileMap}
use Rattle.life_tiles.specs.Spans.{InSpan, IsAwake, no_rows}
use Rattle.life_tiles.specs.Tiling.{place, same_place, index_of, word_at, neighbour, IsLong, IsWithin, AreNear, AreLinked, IsLink, HasRoom, IsTiled, OnlyAppends, KeepsItems, KeepsPlaces, OnlyMakes, LinksTo}
use Rattle.std.proofs.lemmas.List.{length-set}
use Rattle.life_tiles.proofs.Linked.{links_grown}
use Rattle.life_tiles.proofs.Woken.{set_here, set_there}
use Rattle.life_tiles.proofs.Tiling.{same_words, long_along, long_more, pushed_words, pushed_item, slice_get_left, not_found, absent, index_at_most}

pub makes_none : (m : TileMap) → IsTiled m → OnlyMakes m m
makes_none m tiled = record {
  tiled = tiled;
  words = refl;
  lasts = refl;
  recent = refl;
  room = omega arith;
  keeps = λ i p h. h;
  awake = λ i row h is. is;
  fresh = λ i row low high. absurd (omega arith);
  quiet = λ q. q;
}

-- tiles are only added
pub kept_length : (before after : TileMap) → OnlyMakes before after → length before.places.keys ≤ length after.places.keys
kept_length before after makes = from (length before.places.keys) refl
  where
    from : (n : ℕ) → length before.places.keys ≡ n → length before.places.keys ≤ length after.places.keys
    from zero e = omega arith
    from (suc n) e =
        let lt : n < length before.places.keys = omega arith in
        let there = slice_get_within after.places.keys n _ (makes.keeps n (get_or before.places.keys n (place (pos 0) (pos 0))) (slice_get-get_or before.places.keys n (place (pos 0) (pos 0)) lt)) in
        omega arith

pub makes_both : (a b d : TileMap) → OnlyMakes a b → OnlyMakes b d → OnlyMakes a d
makes_both a b d f g = record {
  tiled = g.tiled;
  words = g.words ∙ f.words;
  lasts = g.lasts ∙ f.lasts;
  recent = g.recent ∙ f.recent;
  room = (let x = f.room in let y = g.room in omega arith);
  keeps = λ i p h. g.keeps i p (f.keeps i p h);
  awake = λ i row h is. g.awake i row (let longer = kept_length a b f in omega arith) (f.awake i row h is);
  fresh = λ i row low high below. elim (cases_lt i (length b.places.keys)) [
    | inl lt ↦ g.awake i row lt (f.fresh i row low lt below)
    | inr ge ↦ g.fresh i row ge high below
  ];
  quiet = λ q. g.quiet (f.quiet q);
}

-- ---- more memory

-- all words of tiles have indices
pub few_tiles : (m : TileMap) → IsTiled m → 64 * m.room + 64 < 2 ^ 63
few_tiles m tiled = let long = tiled.room.rows in let all = m.rows.ok.0 in let ok = m.rows.ok.1 in let small = m.rows.small in omega arith

-- the links that were stay
linked_kept : (places : List Place) (before after : List ℕ) → 9 * length places ≤ length before → KeepsItems before after 0 → AreLinked places before → AreLinked places after
linked_kept places before after room keeps linked = record {
  each = λ i direction p at below.
      let lt = slice_get_within places i p at in
      subst (IsLink places (neighbour p direction)) (sym (keeps.each (9 * i + direction) (omega arith))) (linked.each i direction p at below);
}

awake_kept : (before after : List Span) (i row : ℕ) → KeepsItems before after no_rows → i < length before → IsAwake before i row → IsAwake after i row
awake_kept before after i row keeps lt = subst (λ (s : Span). InSpan s row) (sym (keeps.each i lt))

was_awake : (before after : List Span) (i row : ℕ) → KeepsItems before after no_rows → i < length before → IsAwake after i row → IsAwake before i row
was_awake before after i row keeps lt = subst (λ (s : Span). InSpan s row) (keeps.each i lt)

module _ (before after : TileMap) (tiled : IsTiled before) (places : KeepsPlaces before.places after.places) (kept : KeepsPlaces before.kept after.kept) (rows : OnlyAppends before.rows.items after.rows.items) (next : OnlyAppends before.next.items after.next.items)
    (beside : KeepsItems before.beside.items after.beside.items 0) (awake : KeepsItems before.awake.items after.awake.items no_rows) (waking : KeepsItems before.waking.items after.waking.items no_rows) (recent : after.recent ≡ before.recent) where
  -- more memory makes no tile
  pub grown : before.room ≤ after.room → HasRoom after → OnlyMakes before after
  grown more room =
      let count : length after.places.keys ≡ length before.places.keys = ap (λ (ks : List Place). length ks) places.keys in
      let few = tiled.room.few in
      let beside_room = tiled.room.beside in
      let awake_room = tiled.room.awake in
      let waking_room = tiled.room.waking in
      record {
        tiled = record {
          distinct = subst (IsDistinct same_place) (sym places.keys) tiled.distinct;
          rows = subst (λ (ks : List Place). IsLong (length ks) after.rows.items) (sym places.keys) (long_along _ _ _ tiled.rows rows.longer rows.read);
          next = subst (λ (ks : List Place). IsLong (length ks) after.next.items) (sym places.keys) (long_along _ _ _ tiled.next next.longer next.read);
          near = record { each = λ i p at. tiled.near.each i p (ap (λ (ks : List Place). slice_get ks i) (sym places.keys) ∙ at) };
          links = subst (λ (ks : List Place). AreLinked ks after.beside.items) (sym places.keys) (linked_kept before.places.keys before.beside.items after.beside.items (omega arith) beside tiled.links);
          room = room;
          none = kept.keys ∙ tiled.none;
        };
        words = ap (λ (ks : List Place). word_at ks after.rows.items) places.keys ∙ same_words _ _ _ rows.read;
        lasts = ap plane_of_words (ap (λ (ks : List Place). word_at ks after.next.items) places.keys ∙ same_words _ _ _ next.read);
        recent = recent;
        room = more;
        keeps = λ i p at. ap (λ (ks : List Place). slice_get ks i) places.keys ∙ at;
        awake = λ i row lt is. awake_kept before.awake.items after.awake.items i row awake (omega arith) is;
        fresh = λ i row low high. absurd (omega arith);
        quiet = λ q. record { each = λ i row lt is. q.each i row (omega arith) (was_awake before.waking.items after.waking.items i row waking (omega arith) is) };
      }

  -- where no room was told yet
  pub grown_so_far : after.room ≡ before.room → OnlyMakes before after
  grown_so_far same =
      let few = tiled.room.few in
      let a = tiled.room.places in
      let b = tiled.room.kept in
      let d = tiled.room.rows in
      let e = tiled.room.next in
      let f = tiled.room.beside in
      let g = tiled.room.awake in
      let h = tiled.room.waking in
      let a' = places.room in
      let b' = kept.room in
      let d' = rows.longer in
      let e' = next.longer in
      let f' = beside.longer in
      let g' = awake.longer in
      let h' = waking.longer in
      let count : length after.places.keys ≡ length before.places.keys = ap (λ (ks : List Place). length ks) places.keys in
      let others : length after.kept.keys ≡ length before.kept.keys = ap (λ (ks : List Place). length ks) kept.keys in
      grown (omega arith) (record { few = omega arith; places = omega arith; kept = omega arith; rows = omega arith; next = omega arith; beside = omega arith; awake = omega arith; waking = omega arith })

pub appends_none : (words : List ℕ) → OnlyAppends words words
appends_none words = record { read = λ j. refl; longer = omega arith }

pub keeps_items : {A : Type 0} (items : List A) (default : A) → KeepsItems items items default
keeps_items items default = record { each = λ j h. refl; longer = omega arith }

pub keeps_places : {S : Type 0} (places : IndexSet Place S) → KeepsPlaces places places
keeps_places places = record { keys = refl; room = omega arith }

-- ---- one tile more

-- a place that was none of some is put behind them
module _ (first places : List Place) (p : Place) (none : position (same_place p) first ≡ None) (same : places ≡ first) where
  is_new : length places ≤ index_of places p.column p.row
  is_new = subst (λ (ks : List Place). length ks ≤ index_of ks p.column p.row) (sym same) (not_found first p.column p.row none)

  pub put_behind : (now : List Place) → now ≡ (if list_any (same_place p) places then places else places ++ p ∷ []) → now ≡ places ++ p ∷ []
  put_behind now e = e ∙ ap (λ (b : Bool). if b then places else places ++ p ∷ []) (absent places p is_new)

  pub put_at_end : (index : ℕ) → index ≡ index_of places p.column p.row → index ≡ length places
  put_at_end index e = let new = is_new in let most = index_at_most places p.column p.row in omega arith

pub near_more : (places : List Place) (p : Place) → AreNear places → IsWithin (2 ^ 56) p → AreNear (places ++ p ∷ [])
near_more places p near new = record { each = λ i q h. elim (pushed_item places p i q h) [ inl there ↦ near.each i q there | inr last ↦ subst (IsWithin (2 ^ 56)) last.1 new ] }

-- one tile more, for which there is memory
module _ (before after : TileMap) (p : Place) (tiled : IsTiled before) (near : IsWithin (2 ^ 56) p) (free : length before.places.keys < before.room) (small : length before.places.keys + 1 < 2 ^ 63) (keys : after.places.keys ≡ before.places.keys ++ p ∷ [])
    (distinct : IsDistinct same_place after.places.keys) (uses : spare before.places ≤ spare after.places + 1) (kept : after.kept ≡ before.kept) (rows : after.rows ≡ before.rows) (next : after.next ≡ before.next) (recent : after.recent ≡ before.recent)
    (same : after.room ≡ before.room) (links : LinksTo after.places.keys before.beside.items after.beside.items (length before.places.keys) 9) (index : ℕ) (end : index ≡ length before.places.keys) (all none : Span)
    (awake_is : after.awake ≡ with_item before.awake index all) (waking_is : after.waking ≡ with_item before.waking index none) (all_rows : (row : ℕ) → row < 64 → InSpan all row) (no_row : (row : ℕ) → InSpan none row → ⊥) where
  awake : after.awake.items ≡ set before.awake.items (length before.places.keys) all
  awake = rw awake_is refl ∙ ap (λ n. set before.awake.items n all) end

  waking : after.waking.items ≡ set before.waking.items (length before.places.keys) none
  waking = rw waking_is refl ∙ ap (λ n. set before.waking.items n none) end

  n : ℕ
  n = length before.places.keys

  count : length after.places.keys ≡ length before.places.keys + 1
  count = ap (λ (ks : List Place). length ks) keys ∙ length-append before.places.keys (p ∷ [])

  rows_items : after.rows.items ≡ before.rows.items
  rows_items = rw rows refl

  next_items : after.next.items ≡ before.next.items
  next_items = rw next refl

  others : length after.kept.keys ≡ length before.kept.keys
  others = rw kept refl

  others_spare : spare after.kept ≡ spare before.kept
  others_spare = rw kept refl

  has_room : HasRoom after
  has_room =
      let a = tiled.room.places in
      let b = tiled.room.kept in
      let d = tiled.room.rows in
      let e = tiled.room.next in
      let f = tiled.room.beside in
      let g = tiled.room.awake in
      let h = tiled.room.waking in
      let more = count in
      let kept_count = others in
      let kept_spare = others_spare in
      let rows_count : length after.rows.items ≡ length before.rows.items = ap (λ (xs : List ℕ). length xs) rows_items in
      let next_count : length after.next.items ≡ length before.next.items = ap (λ (xs : List ℕ). length xs) next_items in
      let beside_count = links.keeps.long in
      let awake_count : length after.awake.items ≡ length before.awake.items = ap (λ (xs : List Span). length xs) awake ∙ length-set before.awake.items (length before.places.keys) all in
      let waking_count : length after.waking.items ≡ length before.waking.items = ap (λ (xs : List Span). length xs) waking ∙ length-set before.waking.items (length before.places.keys) none in
      record { few = omega arith; places = omega arith; kept = omega arith; rows = omega arith; next = omega arith; beside = omega arith; awake = omega arith; waking = omega arith }

  pub placed : OnlyMakes before after
  placed =
      let rows_room = tiled.room.rows in
      let next_room = tiled.room.next in
      let awake_room = tiled.room.awake in
      let waking_room = tiled.room.waking in
      let more = count in
      let longer : length before.places.keys ≤ length after.places.keys = omega arith in
      let rows_long : 64 * length after.places.keys ≤ length before.rows.items = omega arith in
      let next_long : 64 * length after.places.keys ≤ length before.next.items = omega arith in
      let awake_within : length before.places.keys < length before.awake.items = omega arith in
      let waking_within : length before.places.keys < length before.waking.items = omega arith in
      record {
        tiled = record {
          distinct = distinct;
          rows = subst (IsLong (length after.places.keys)) (sym rows_items) (long_more _ _ before.rows.items tiled.rows longer rows_long);
          next = subst (IsLong (length after.places.keys)) (sym next_items) (long_more _ _ before.next.items tiled.next longer next_long);
          near = subst AreNear (sym keys) (near_more before.places.keys p tiled.near near);
          links = subst (λ (ks : List Place). AreLinked ks after.beside.items) (sym keys)
              (links_grown before.places.keys p before.beside.items after.beside.items small tiled.links (subst (λ (ks : List Place). LinksTo ks before.beside.items after.beside.items (length before.places.keys) 9) keys links));
          room = has_room;
          none = rw kept tiled.none;
        };
        words = (λ l. word_at (keys l) (rows_items l)) ∙ pushed_words before.places.keys before.rows.items tiled.rows p;
        lasts = ap plane_of_words ((λ l. word_at (keys l) (next_items l)) ∙ pushed_words before.places.keys before.next.items tiled.next p);
        recent = recent;
        room = omega arith;
        keeps = λ i q h. ap (λ (ks : List Place). slice_get ks i) keys ∙ slice_get_left before.places.keys (p ∷ []) i q h;
        awake = λ i row lt is.
            let other : i ≢ length before.places.keys = omega arith in
            subst (λ (spans : List Span). IsAwake spans i row) (sym awake) (subst (λ (s : Span). InSpan s row) (sym (set_there before.awake.items (length before.places.keys) all awake_within i other)) is);
        fresh = λ i row low high below.
            let is : length before.places.keys ≡ i = omega arith in
            subst (λ k. IsAwake after.awake.items k row) is
            (subst (λ (spans : List Span). IsAwake spans (length before.places.keys) row) (sym awake) (subst (λ (s : Span). InSpan s row) (sym (set_here before.awake.items (length before.places.keys) all awake_within)) (all_rows row below)));
        quiet = λ q. record {
          each = λ i row lt is. elim (cases_lt i (length before.places.keys)) [
            | inl less ↦
                let other : i ≢ length before.places.keys = omega arith in
                q.each i row less (subst (λ (s : Span). InSpan s row) (set_there before.waking.items (length before.places.keys) none waking_within i other) (subst (λ (spans : List Span). IsAwake spans i row) waking is))
            | inr ge ↦
                let same : i ≡ length before.places.keys = omega arith in
                no_row row (subst (λ (s : Span). InSpan s row) (set_here before.waking.items (length before.places.keys) none waking_within)
                (subst (λ k. IsAwake (set before.waking.items (length before.places.keys) none) k row) same (subst (λ (spans : List Span). IsAwake spans i row) waking is)))
          ];
        };
      }
