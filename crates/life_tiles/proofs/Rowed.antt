-- Rows of a tile that are stepped.
use Rattle.std.proofs.Common.{◌≡◌, ℕ, suc, ◌+◌, ◌*◌, ◌<◌, ◌≤◌, false, cond, nat_eq, List, length, set, slice_index, refl, sym, ap, subst, ◌∙◌, arith, inl, inr}
use Rattle.std.specs.Prelude.{bit_xor}
use Rattle.std.proofs.lemmas.Bool.{cases_lt}
use Rattle.std.proofs.lemmas.List.{get_or-set_other, get_or-set_same, length-set}
use Rattle.life_kernel.specs.declared.row.Row.{Row}
use Rattle.life_kernel.specs.Words.{IsNextWord}
use Rattle.life_tiles.specs.Rows.{word_about, row_about, FillsRows}

-- ---- words about a tile

pub above_word : (rows : List ℕ) (above here below : ℕ) → word_about rows above here below 0 ≡ slice_index rows (64 * above + 63)
unfolding word_about
above_word rows above here below = refl

pub below_word : (rows : List ℕ) (above here below : ℕ) → word_about rows above here below 65 ≡ slice_index rows (64 * below)
unfolding word_about
below_word rows above here below = refl

pub own_word : (rows : List ℕ) (above here below down : ℕ) → down < 64 → word_about rows above here below (suc down) ≡ slice_index rows (64 * here + down)
unfolding word_about
own_word rows above here below down h = let no : nat_eq down 64 ≡ false = grind arith in ap (λ b. cond b (slice_index rows (64 * below)) (slice_index rows (64 * here + down))) no

pub next_along : (a a' h h' b b' : Row) (v : ℕ) → a ≡ a' → h ≡ h' → b ≡ b' → IsNextWord a h b v → IsNextWord a' h' b' v
next_along a a' h h' b b' v p q r is = subst (λ x. IsNextWord x h' b' v) p (subst (λ x. IsNextWord a x b' v) q (subst (λ x. IsNextWord a h x v) r is))

-- ---- rows, one after the other

module _ (rows about : List ℕ) where
  pub fills_none : (next changes : List ℕ) (n : ℕ) → FillsRows rows about next next changes changes n n
  fills_none next changes n = record { inside = λ down low high. absurd (omega arith); changed = λ down low high. absurd (omega arith); outside = λ j h. refl; long = refl; others = λ down h. refl }

  pub fills_one : (next changes : List ℕ) (down word : ℕ) → down < 64 → 64 * slice_index about 4 + down < length next → down < length changes
      → IsNextWord (row_about rows about down) (row_about rows about (down + 1)) (row_about rows about (down + 2)) word
      → FillsRows rows about next (set next (64 * slice_index about 4 + down) word) changes (set changes down (bit_xor (slice_index next (64 * slice_index about 4 + down)) word)) down (down + 1)
  fills_one next changes down word below within room is =
      let here = get_or-set_same next (64 * slice_index about 4 + down) word 0 within in
      record {
        inside = λ d low high. let same : down ≡ d = omega arith in
            subst (λ k. IsNextWord (row_about rows about k) (row_about rows about (k + 1)) (row_about rows about (k + 2)) (slice_index (set next (64 * slice_index about 4 + down) word) (64 * slice_index about 4 + k))) same
            (subst (IsNextWord (row_about rows about down) (row_about rows about (down + 1)) (row_about rows about (down + 2))) (sym here) is);
        changed = λ d low high. let same : down ≡ d = omega arith in
            subst (λ k. slice_index (set changes down (bit_xor (slice_index next (64 * slice_index about 4 + down)) word)) k ≡ bit_xor (slice_index next (64 * slice_index about 4 + k)) (slice_index (set next (64 * slice_index about 4 + down) word) (64 * slice_index about 4 + k))) same
            (get_or-set_same changes down _ 0 room ∙ ap (bit_xor (slice_index next (64 * slice_index about 4 + down))) (sym here));
        outside = λ j h. get_or-set_other next (64 * slice_index about 4 + down) j word 0 (λ e. elim h [ inl lt ↦ absurd (omega arith) | inr ge ↦ absurd (omega arith) ]);
        long = length-set changes down _;
        others = λ d h. get_or-set_other changes down d _ 0 (λ e. elim h [ inl lt ↦ absurd (omega arith) | inr ge ↦ absurd (omega arith) ]);
      }

  pub fills_both : (a b d old mid new : List ℕ) (from at to : ℕ) → from ≤ at → at ≤ to → FillsRows rows about a b old mid from at → FillsRows rows about b d mid new at to → FillsRows rows about a d old new from to
  fills_both a b d old mid new from at to low high first second = record {
    inside = λ down p q. elim (cases_lt down at) [
      | inl lt ↦ subst (IsNextWord (row_about rows about down) (row_about rows about (down + 1)) (row_about rows about (down + 2))) (sym (second.outside (64 * slice_index about 4 + down) (inl (omega arith)))) (first.inside down p lt)
      | inr ge ↦ second.inside down ge q
    ];
    changed = λ down p q. elim (cases_lt down at) [
      | inl lt ↦ second.others down (inl lt) ∙ first.changed down p lt ∙ ap (bit_xor (slice_index a (64 * slice_index about 4 + down))) (sym (second.outside (64 * slice_index about 4 + down) (inl (omega arith))))
      | inr ge ↦ second.changed down ge q ∙ ap (λ n. bit_xor n (slice_index d (64 * slice_index about 4 + down))) (first.outside (64 * slice_index about 4 + down) (inr (omega arith)))
    ];
    outside = λ j h. elim h [
      | inl lt ↦ second.outside j (inl (omega arith)) ∙ first.outside j (inl lt)
      | inr ge ↦ second.outside j (inr ge) ∙ first.outside j (inr (omega arith))
    ];
    long = second.long ∙ first.long;
    others = λ down h. elim h [
      | inl lt ↦ second.others down (inl (omega arith)) ∙ first.others down (inl lt)
      | inr ge ↦ second.others down (inr ge) ∙ first.others down (inr (omega arith))
    ];
  }

  -- an inner row of three tiles
  pub inner_row : (at down : ℕ) → at ≡ suc down → down < 64
      → record { west = slice_index rows (64 * slice_index about 3 + down); here = slice_index rows (64 * slice_index about 4 + down); east = slice_index rows (64 * slice_index about 5 + down) } ≡ row_about rows about at
  inner_row at down e h =
      (λ i. record { west = sym (own_word rows (slice_index about 0) (slice_index about 3) (slice_index about 6) down h) i; here = sym (own_word rows (slice_index about 1) (slice_index about 4) (slice_index about 7) down h) i; east = sym (own_word rows (slice_index about 2) (slice_index about 5) (slice_index about 8) down h) i })
      ∙ ap (row_about rows about) (sym e)
