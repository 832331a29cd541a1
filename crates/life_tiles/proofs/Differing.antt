-- Whether words of tiles change.
use Rattle.std.proofs.Common.{◌≡◌, ◌≢◌, ◌⊎◌, ℕ, zero, suc, ◌+◌, ◌*◌, ◌/◌, ◌%◌, ◌^◌, ◌<◌, ◌≤◌, ◌==◌, pos, ◌+ℤ◌, ◌*ℤ◌, List, length, get_or, slice_index, Option, Some, None, refl, sym, ap, subst, ◌∙◌, arith, inl, inr}
use Rattle.std.specs.Bool.{MatchBool}
use Rattle.std.specs.Option.{is_some, MatchOption}
use Rattle.std.proofs.lemmas.Bool.{cases_lt}
use Rattle.std.proofs.lemmas.Nat.Bits.{bit_at-lt, same_from_bits_below}
use Rattle.std.proofs.lemmas.Option.{slice_get-get_or}
use Rattle.std.specs.Int.{bit_at}
use Rattle.std.specs.List.{IsDistinct}
use Rattle.life_kernel.specs.Rows.{test}
use Rattle.life_kernel.specs.Words.{plane_of_words}
use Rattle.life_kernel.specs.WordLaws.{cell_of_word}
use Rattle.life_plane.specs.Plane.{Plane}
use Rattle.life_tiles.specs.declared.place.Place.{Place}
use Rattle.life_tiles.specs.Tiling.{place, same_place, word_at, IsLong, Differ, AreSame}
use Rattle.life_tiles.proofs.Tiling.{same_words, word_in_tile, index_is}

digits : (m n : ℕ) → m < 2 → n < 2 → (m == 1) ≡ (n == 1) → m ≡ n
digits zero zero a b h = refl
digits zero (suc zero) a b h = cc
digits (suc zero) zero a b h = cc
digits (suc zero) (suc zero) a b h = refl
digits m (suc (suc n)) a b h = absurd (omega arith)
digits (suc (suc m)) n a b h = absurd (omega arith)

digit_from_test : (a b k : ℕ) → test a k ≡ test b k → bit_at a k ≡ bit_at b k
unfolding test
digit_from_test a b k h = digits (bit_at a k) (bit_at b k) (bit_at-lt a k) (bit_at-lt b k) h

module _ (places : List Place) (rows next : List ℕ) (distinct : IsDistinct same_place places) (long : IsLong (length places) rows) (next_long : IsLong (length places) next) where
  -- words that are alike in all tiles are alike
  pub words_from_tiles : AreSame rows next 0 (64 * length places) → word_at places next ≡ word_at places rows
  words_from_tiles same = same_words places next rows (λ j. at j (cases_lt j (64 * length places)))
    where
      at : (j : ℕ) → (j < 64 * length places) ⊎ (64 * length places ≤ j) → slice_index next j ≡ slice_index rows j
      at j (inl lt) = same.each j (omega arith) lt
      at j (inr ge) = next_long.ends j ge ∙ sym (long.ends j ge)

  tile_word : (words : List ℕ) (i down : ℕ) → i < length places → down < 64
      → word_at places words (get_or places i (place (pos 0) (pos 0))).column (pos 64 *ℤ (get_or places i (place (pos 0) (pos 0))).row +ℤ pos down) ≡ slice_index words (64 * i + down)
  tile_word words i down within h =
      let p : Place = get_or places i (place (pos 0) (pos 0)) in
      word_in_tile places words p.column p.row down _ h refl
      ∙ ap (λ n. slice_index words (64 * n + down)) (index_is places i p distinct (slice_get-get_or places i (place (pos 0) (pos 0)) within))

  -- where a word differs, a cell does
  pub planes_differ : Differ rows next 0 (64 * length places) → plane_of_words (word_at places next) ≢ plane_of_words (word_at places rows)
  planes_differ d same =
      let lt = d.within in
      let down : d.at % 64 < 64 = omega arith in
      let within : d.at / 64 < length places = omega arith in
      let is : 64 * (d.at / 64) + d.at % 64 ≡ d.at = omega arith in
      let p : Place = get_or places (d.at / 64) (place (pos 0) (pos 0)) in
      let was : word_at places rows p.column (pos 64 *ℤ p.row +ℤ pos (d.at % 64)) ≡ slice_index rows d.at = tile_word rows (d.at / 64) (d.at % 64) within down ∙ ap (slice_index rows) is in
      let now : word_at places next p.column (pos 64 *ℤ p.row +ℤ pos (d.at % 64)) ≡ slice_index next d.at = tile_word next (d.at / 64) (d.at % 64) within down ∙ ap (slice_index next) is in
      let alike : word_at places rows p.column (pos 64 *ℤ p.row +ℤ pos (d.at % 64)) ≡ word_at places next p.column (pos 64 *ℤ p.row +ℤ pos (d.at % 64)) =
      same_from_bits_below 64 _ _ (subst (λ n. n < 2 ^ 64) (sym was) d.was_fits) (subst (λ n. n < 2 ^ 64) (sym now) d.now_fits)
      (λ k h. digit_from_test _ _ k
      (sym (cell_of_word (word_at places rows) p.column (pos 64 *ℤ p.row +ℤ pos (d.at % 64)) k (pos 64 *ℤ p.column +ℤ pos k) h refl)
      ∙ ap (λ (s : Plane). s (pos 64 *ℤ p.column +ℤ pos k) (pos 64 *ℤ p.row +ℤ pos (d.at % 64))) (sym same)
      ∙ cell_of_word (word_at places next) p.column (pos 64 *ℤ p.row +ℤ pos (d.at % 64)) k (pos 64 *ℤ p.column +ℤ pos k) h refl)) in
      d.other (sym was ∙ alike ∙ now)

  -- a search for a tile of which a word changes tells whether a cell changed
  pub changed_is : {A : Type 0} (found : Option A) → MatchOption found (AreSame rows next 0 (64 * length places)) (λ index. Differ rows next 0 (64 * length places))
      → MatchBool (is_some found) (plane_of_words (word_at places next) ≢ plane_of_words (word_at places rows)) (plane_of_words (word_at places next) ≡ plane_of_words (word_at places rows))
  changed_is None e = ap plane_of_words (words_from_tiles e)
  changed_is (Some index) d = planes_differ d
