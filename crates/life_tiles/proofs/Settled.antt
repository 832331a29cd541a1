-- What is kept of the past from step to step.
use Rattle.std.proofs.Common.{◌≡◌, ◌⊎◌, ℕ, ◌+◌, ◌<◌, ◌≤◌, ◌==◌, Bool, true, false, ℤ, pos, ◌+ℤ◌, ◌-ℤ◌, ◌≤ℤ◌, List, [], length, get_or, slice_get, Some, refl, sym, ap, subst, ◌∙◌, arith, inl, inr}
use Rattle.std.proofs.lemmas.Bool.{cases_lt}
use Rattle.std.proofs.lemmas.Int.{ints}
use Rattle.std.proofs.lemmas.Nat.Bits.{bit_at-zero}
use Rattle.std.proofs.lemmas.Option.{slice_get_within, slice_get-get_or}
use Rattle.std.specs.Int.{bit_at}
use Rattle.std.specs.List.{IsDistinct}
use Rattle.life_kernel.specs.Rows.{test}
use Rattle.life_kernel.specs.Words.{part, offset, plane_of_words}
use Rattle.life_kernel.specs.WordLaws.{offset_below}
use Rattle.life_plane.specs.Apart.{Within, Live, Dead}
use Rattle.life_plane.specs.ApartLaws.{live_or_dead, dead_step}
use Rattle.life_plane.specs.ListLaws.{same_item}
use Rattle.life_plane.specs.Plane.{Plane, step, one_if, lives_on, same_plane}
use Rattle.life_tiles.specs.declared.place.Place.{Place}
use Rattle.life_tiles.specs.declared.span.Span.{Span}
use Rattle.life_tiles.specs.declared.tile_map.TileMap.{TileMap}
use Rattle.life_tiles.specs.Spans.{IsAwake}
use Rattle.life_tiles.specs.Stepping.{IsAsleep, IsSettled, IsFresh, FillsAll}
use Rattle.life_tiles.specs.Tiling.{place, same_place, index_of, word_at, cells_in, cells_of, cells_before, HasTile, IsLong, IsTiled, IsClosed, OnlyMakes}
use Rattle.life_tiles.proofs.Grown.{has_more}
use Rattle.life_tiles.proofs.Tiling.{index_within, tile_at_index, no_word}

-- where all rows are awake nothing is left out
pub settled_fresh : (m : TileMap) → m.recent ≡ false → IsFresh m → IsSettled m
settled_fresh m none fresh = record {
  rested = λ i x y asleep. absurd (awake i x y asleep);
  recent = λ yes. let both = sym none ∙ yes in cc;
  closed = λ i x y a b asleep. absurd (awake i x y asleep);
  was_closed = λ yes. let both = sym none ∙ yes in cc;
  quiet = fresh.quiet;
}
  where
    awake : (i : ℕ) (x y : ℤ) → IsAsleep m.places.keys m.awake.items i x y → ⊥
    awake i x y asleep = asleep.asleep (fresh.awake i (offset y) (slice_get_within m.places.keys i _ asleep.at) (offset_below y))

-- where there is no tile, no row is not awake
pub fresh_none : (m : TileMap) → m.places.keys ≡ [] → IsFresh m
fresh_none m none = record {
  awake = λ i row lt. absurd (omega (arith, ap (λ (ks : List Place). length ks) none));
  quiet = record { each = λ i row lt. absurd (omega (arith, ap (λ (ks : List Place). length ks) none)) };
}

-- all rows of the tiles that are made are awake
pub fresh_kept : (before after : TileMap) → OnlyMakes before after → IsFresh before → IsFresh after
fresh_kept before after makes fresh = record {
  awake = λ i row lt below. elim (cases_lt i (length before.places.keys)) [ inl less ↦ makes.awake i row less (fresh.awake i row less below) | inr ge ↦ makes.fresh i row ge lt below ];
  quiet = makes.quiet fresh.quiet;
}

-- tiles that are made leave the past as it was
module _ (before after : TileMap) (makes : OnlyMakes before after) where
  was_asleep : (i : ℕ) (x y : ℤ) → IsAsleep after.places.keys after.awake.items i x y → IsAsleep before.places.keys before.awake.items i x y
  was_asleep i x y asleep = by (cases_lt i (length before.places.keys))
    where
      by : (i < length before.places.keys) ⊎ (length before.places.keys ≤ i) → IsAsleep before.places.keys before.awake.items i x y
      by (inl lt) =
          let there = slice_get-get_or before.places.keys i (place (part x) (part y)) lt in
          let is = same_item (makes.keeps i (get_or before.places.keys i (place (part x) (part y))) there) asleep.at in
          record { at = there ∙ ap Some is; asleep = λ awake. asleep.asleep (makes.awake i (offset y) lt awake) }
      by (inr ge) = absurd (asleep.asleep (makes.fresh i (offset y) ge (slice_get_within after.places.keys i _ asleep.at) (offset_below y)))

  cells_same : cells_of after ≡ cells_of before
  cells_same = ap plane_of_words makes.words

  pub settled_kept : IsSettled before → IsSettled after
  settled_kept settled = record {
    rested = λ i x y asleep. ap (λ (s : Plane). s x y) makes.lasts ∙ settled.rested i x y (was_asleep i x y asleep) ∙ ap (λ (s : Plane). step s x y) (sym cells_same);
    recent = λ yes. cells_same ∙ settled.recent (sym makes.recent ∙ yes) ∙ ap step (sym makes.lasts);
    closed = λ i x y a b asleep live near. has_more before after (part a) (part b) makes (settled.closed i x y a b (was_asleep i x y asleep) (ap (λ (s : Plane). s x y) (sym cells_same) ∙ live) near);
    was_closed = λ yes. record { about = λ x y a b live near. has_more before after (part a) (part b) makes ((settled.was_closed (sym makes.recent ∙ yes)).about x y a b (ap (λ (s : Plane). s x y) (sym makes.lasts) ∙ live) near) };
    quiet = makes.quiet settled.quiet;
  }

-- ---- a step

dark : (w k : ℕ) → w ≡ 0 → test w k ≡ false
unfolding test
dark w k e = ap (λ n. bit_at n k == 1) e ∙ ap (λ n. n == 1) (bit_at-zero k)

-- where there is no tile, no cell lives
no_cell : (places : List Place) (rows : List ℕ) (x y : ℤ) → IsLong (length places) rows → length places ≤ index_of places (part x) (part y) → cells_in places rows x y ≡ false
unfolding plane_of_words
no_cell places rows x y long none = dark (word_at places rows (part x) y) (offset x) (no_word places rows (part x) y long none)

-- the next generation of a cell depends on those beside it
step_beside : (s t : Plane) (x y : ℤ) → ((a b : ℤ) → Within (pos 1) x y a b → s a b ≡ t a b) → step s x y ≡ step t x y
unfolding step
step_beside s t x y same =
    let w = x -ℤ pos 1 in
    let e = x +ℤ pos 1 in
    let n = y -ℤ pos 1 in
    let o = y +ℤ pos 1 in
    let near : (a b : ℤ) → a ≤ℤ (x +ℤ pos 1) → x ≤ℤ (a +ℤ pos 1) → b ≤ℤ (y +ℤ pos 1) → y ≤ℤ (b +ℤ pos 1) → s a b ≡ t a b = λ a b p q r v. same a b (record { right = p; left = q; below = r; above = v }) in
    let here = near x y (omega (arith, ints)) (omega (arith, ints)) (omega (arith, ints)) (omega (arith, ints)) in
    let nw = near (x -ℤ pos 1) (y -ℤ pos 1) (omega (arith, ints)) (omega (arith, ints)) (omega (arith, ints)) (omega (arith, ints)) in
    let nn = near x (y -ℤ pos 1) (omega (arith, ints)) (omega (arith, ints)) (omega (arith, ints)) (omega (arith, ints)) in
    let ne = near (x +ℤ pos 1) (y -ℤ pos 1) (omega (arith, ints)) (omega (arith, ints)) (omega (arith, ints)) (omega (arith, ints)) in
    let ww = near (x -ℤ pos 1) y (omega (arith, ints)) (omega (arith, ints)) (omega (arith, ints)) (omega (arith, ints)) in
    let ee = near (x +ℤ pos 1) y (omega (arith, ints)) (omega (arith, ints)) (omega (arith, ints)) (omega (arith, ints)) in
    let sw = near (x -ℤ pos 1) (y +ℤ pos 1) (omega (arith, ints)) (omega (arith, ints)) (omega (arith, ints)) (omega (arith, ints)) in
    let ss = near x (y +ℤ pos 1) (omega (arith, ints)) (omega (arith, ints)) (omega (arith, ints)) (omega (arith, ints)) in
    let se = near (x +ℤ pos 1) (y +ℤ pos 1) (omega (arith, ints)) (omega (arith, ints)) (omega (arith, ints)) (omega (arith, ints)) in
    λ i. lives_on (here i) (one_if (nw i) + one_if (nn i) + one_if (ne i) + one_if (ww i) + one_if (ee i) + one_if (sw i) + one_if (ss i) + one_if (se i))

module _ (places : List Place) (rows before after : List ℕ) (awake_before awake_after waking_before waking_after : List Span) (distinct : IsDistinct same_place places) (rows_long : IsLong (length places) rows) (before_long : IsLong (length places) before)
    (after_long : IsLong (length places) after) (fills : FillsAll places rows before after awake_before awake_after waking_before waking_after) where
  -- `next` has the next generation of all cells
  pub next_cells : IsClosed places (cells_in places rows) → cells_in places after ≡ step (cells_in places rows)
  next_cells closed = same_plane _ _ (λ x y. by x y (cases_lt (index_of places (part x) (part y)) (length places)))
    where
      no_birth : (x y : ℤ) → length places ≤ index_of places (part x) (part y) → (Live (cells_in places rows) x y) ⊎ (Dead (cells_in places rows) x y) → step (cells_in places rows) x y ≡ false
      no_birth x y none (inr dead) = dead_step (cells_in places rows) x y dead
      no_birth x y none (inl live) =
          let near : Within (pos 1) live.a live.b x y = record { right = live.near.left; left = live.near.right; below = live.near.above; above = live.near.below } in
          let within = index_within places (part x) (part y) (closed.about live.a live.b x y live.lives near) in
          absurd (omega arith)

      by : (x y : ℤ) → (index_of places (part x) (part y) < length places) ⊎ (length places ≤ index_of places (part x) (part y)) → cells_in places after x y ≡ step (cells_in places rows) x y
      by x y (inl lt) = (fills.stepped (index_of places (part x) (part y)) lt).each x y (tile_at_index places (part x) (part y) lt)
      by x y (inr none) = no_cell places after x y after_long none ∙ sym (no_birth x y none (live_or_dead (cells_in places rows) x y))

  -- cells beside one in a row that does not wake are as before
  pub beside_asleep : (i : ℕ) (x y a b : ℤ) → IsAsleep places waking_after i x y → Within (pos 1) x y a b → cells_in places after a b ≡ cells_in places before a b
  beside_asleep i x y a b asleep near = by (cases_lt (index_of places (part a) (part b)) (length places))
    where
      by : (index_of places (part a) (part b) < length places) ⊎ (length places ≤ index_of places (part a) (part b)) → cells_in places after a b ≡ cells_in places before a b
      by (inl lt) = (fills.marked (index_of places (part a) (part b)) lt).each i x y a b (tile_at_index places (part a) (part b) lt) asleep near
      by (inr none) = no_cell places after a b after_long none ∙ sym (no_cell places before a b before_long none)

itself_near : (x y : ℤ) → Within (pos 1) x y x y
itself_near x y = record { right = omega (arith, ints); left = omega (arith, ints); below = omega (arith, ints); above = omega (arith, ints) }

-- what is kept of the past after a step
module _ (made filled last : TileMap) (tiled : IsTiled made) (settled : IsSettled made) (closed : IsClosed made.places.keys (cells_of made)) (filled_tiled : IsTiled filled) (places : filled.places ≡ made.places) (rows : filled.rows ≡ made.rows)
    (fills : FillsAll made.places.keys made.rows.items made.next.items filled.next.items made.awake.items filled.awake.items made.waking.items filled.waking.items) (last_places : last.places ≡ filled.places) (last_rows : last.rows ≡ filled.next)
    (last_next : last.next ≡ filled.rows) where
  keys : last.places.keys ≡ made.places.keys
  keys = rw (last_places, places) refl

  now : last.rows.items ≡ filled.next.items
  now = rw last_rows refl

  was : last.next.items ≡ made.rows.items
  was = rw (last_next, rows) refl

  after_long : IsLong (length made.places.keys) filled.next.items
  after_long = let same : filled.places.keys ≡ made.places.keys = rw places refl in subst (λ (ks : List Place). IsLong (length ks) filled.next.items) same filled_tiled.next

  pub cells_last : cells_of last ≡ cells_in made.places.keys filled.next.items
  cells_last = λ i. cells_in (keys i) (now i)

  cells_was : cells_before last ≡ cells_of made
  cells_was = λ i. cells_in (keys i) (was i)

  pub cells_next : cells_of last ≡ step (cells_of made)
  cells_next = cells_last ∙ next_cells made.places.keys made.rows.items made.next.items filled.next.items made.awake.items filled.awake.items made.waking.items filled.waking.items tiled.distinct tiled.rows tiled.next after_long fills closed

  -- a row that is asleep for the step after
  asleep_still : (i : ℕ) (x y : ℤ) → last.awake.items ≡ filled.waking.items → IsAsleep last.places.keys last.awake.items i x y → IsAsleep made.places.keys filled.waking.items i x y
  asleep_still i x y same asleep = record {
    at = ap (λ (ks : List Place). slice_get ks i) (sym keys) ∙ asleep.at;
    asleep = λ awake. asleep.asleep (subst (λ (spans : List Span). IsAwake spans i (offset y)) (sym same) awake);
  }

  beside_still : (i : ℕ) (x y a b : ℤ) → IsAsleep made.places.keys filled.waking.items i x y → Within (pos 1) x y a b → cells_in made.places.keys filled.next.items a b ≡ cells_before made a b
  beside_still = beside_asleep made.places.keys made.rows.items made.next.items filled.next.items made.awake.items filled.awake.items made.waking.items filled.waking.items tiled.distinct tiled.rows tiled.next after_long fills

  pub settled_next : (made.recent ≡ true → last.awake.items ≡ filled.waking.items) → (made.recent ≡ false → (i row : ℕ) → i < length last.places.keys → row < 64 → IsAwake last.awake.items i row) → last.waking ≡ filled.awake → IsSettled last
  settled_next known unknown last_waking = record {
    rested = λ i x y asleep. rested i x y asleep made.recent refl;
    recent = λ yes. cells_next ∙ ap step (sym cells_was);
    closed = λ i x y a b asleep live near. still_closed i x y a b asleep live near made.recent refl;
    was_closed = λ yes. subst (λ (ks : List Place). IsClosed ks (cells_before last)) (sym keys) (subst (IsClosed made.places.keys) (sym cells_was) closed);
    quiet = record {
      each = λ i row lt awake.
          let spans : last.waking.items ≡ filled.awake.items = rw last_waking refl in
          fills.asleep i row (subst (λ (ks : List Place). i < length ks) keys lt) (subst (λ (ss : List Span). IsAwake ss i row) spans awake);
    };
  }
    where
      never : (i : ℕ) (x y : ℤ) → made.recent ≡ false → IsAsleep last.places.keys last.awake.items i x y → ⊥
      never i x y e asleep = asleep.asleep (unknown e i (offset y) (slice_get_within last.places.keys i _ asleep.at) (offset_below y))

      rested : (i : ℕ) (x y : ℤ) → IsAsleep last.places.keys last.awake.items i x y → (b : Bool) → made.recent ≡ b → cells_before last x y ≡ step (cells_of last) x y
      rested i x y asleep false e = absurd (never i x y e asleep)
      rested i x y asleep true e =
          let still = asleep_still i x y (known e) asleep in
          ap (λ (s : Plane). s x y) (cells_was ∙ settled.recent e)
          ∙ sym (step_beside (cells_in made.places.keys filled.next.items) (cells_before made) x y (λ a b near. beside_still i x y a b still near))
          ∙ ap (λ (s : Plane). step s x y) (sym cells_last)

      still_closed : (i : ℕ) (x y a b : ℤ) → IsAsleep last.places.keys last.awake.items i x y → cells_of last x y ≡ true → Within (pos 1) x y a b → (t : Bool) → made.recent ≡ t → HasTile last.places.keys (part a) (part b)
      still_closed i x y a b asleep live near false e = absurd (never i x y e asleep)
      still_closed i x y a b asleep live near true e =
          let still = asleep_still i x y (known e) asleep in
          let lived : cells_before made x y ≡ true = sym (beside_still i x y x y still (itself_near x y)) ∙ ap (λ (s : Plane). s x y) (sym cells_last) ∙ live in
          subst (λ (ks : List Place). HasTile ks (part a) (part b)) (sym keys) ((settled.was_closed e).about x y a b lived near)
