-- The laws of planes of words: the rule on words is the rule on their plane.
use Rattle.std.specs.Prelude.{◌≡◌, ℕ, zero, suc, ◌+◌, ◌*◌, ◌/◌, ◌%◌, ◌<◌, Bool, true, false, cond, nat_eq, ℤ, pos, negsuc, ◌+ℤ◌, ◌-ℤ◌, ◌*ℤ◌}
use Rattle.std.proofs.Common.{refl, sym, ap, ap₂, ◌∙◌, arith}
use Rattle.std.proofs.lemmas.Int.{ints}
use Rattle.life_plane.specs.Plane.{step, same_plane}
use Rattle.life_kernel.specs.Rows.{test, column}
use Rattle.life_kernel.specs.Words.{spread, next_bit, part, offset, Words, plane_of_words, row_of_words, AreNextWords}

-- ---- parts of 64

pub offset_below : (z : ℤ) → offset z < 64
unfolding offset
offset_below (pos n) = omega arith
offset_below (negsuc n) = omega arith

pub part_and_offset : (z : ℤ) → z ≡ pos 64 *ℤ part z +ℤ pos (offset z)
unfolding part offset
part_and_offset (pos n) = ap pos (let e : n ≡ 64 * (n / 64) + n % 64 = omega arith in e)
part_and_offset (negsuc n) = omega (arith, ints)

pub part_is : (c : ℤ) (k : ℕ) (z : ℤ) → k < 64 → z ≡ pos 64 *ℤ c +ℤ pos k → part z ≡ c
part_is c k z h e =
    let is = part_and_offset z in
    let below = offset_below z in
    omega (arith, ints)

pub offset_is : (c : ℤ) (k : ℕ) (z : ℤ) → k < 64 → z ≡ pos 64 *ℤ c +ℤ pos k → offset z ≡ k
offset_is c k z h e =
    let is = part_and_offset z in
    let below = offset_below z in
    omega (arith, ints)

-- ---- cells of words

-- the cell k places into the word of column c
pub cell_of_word : (words : Words) (c y : ℤ) (k : ℕ) (x : ℤ) → k < 64 → x ≡ pos 64 *ℤ c +ℤ pos k → plane_of_words words x y ≡ test (words c y) k
unfolding plane_of_words
cell_of_word words c y k x h e = ap₂ (λ d j. test (words d y) j) (part_is c k x h e) (offset_is c k x h e)

nat_eq-below : (k : ℕ) → k < 64 → nat_eq k 64 ≡ false
nat_eq-below k h = grind arith

spread_within : (words : Words) (c y : ℤ) (k : ℕ) → k < 64 → spread (row_of_words words c y) (suc k) ≡ test (words c y) k
unfolding spread column
spread_within words c y k h = ap (λ b. cond b (test (words (c +ℤ pos 1) y) 0) (test (words c y) k)) (nat_eq-below k h)

-- the cell in bit k and its neighbours, in a row
module _ (words : Words) (c y : ℤ) (k : ℕ) (x : ℤ) (below : k < 64) (at : x ≡ pos 64 *ℤ c +ℤ pos k) where
  pub spread_here : spread (row_of_words words c y) (suc k) ≡ plane_of_words words x y
  spread_here = spread_within words c y k below ∙ sym (cell_of_word words c y k x below at)

spread_west : (words : Words) (c y : ℤ) (k : ℕ) (x : ℤ) → k < 64 → x ≡ pos 64 *ℤ c +ℤ pos k → spread (row_of_words words c y) k ≡ plane_of_words words (x -ℤ pos 1) y
unfolding spread column
spread_west words c y zero x h e =
    let last : 63 < 64 = omega arith in
    sym (cell_of_word words (c -ℤ pos 1) y 63 (x -ℤ pos 1) last (omega (arith, ints)))
spread_west words c y (suc k) x h e =
    let lt : k < 64 = omega arith in
    spread_within words c y k lt ∙ sym (cell_of_word words c y k (x -ℤ pos 1) lt (omega (arith, ints)))

spread_last : (words : Words) (c y : ℤ) → spread (row_of_words words c y) 65 ≡ test (words (c +ℤ pos 1) y) 0
unfolding spread column
spread_last words c y = refl

spread_east : (words : Words) (c y : ℤ) (k : ℕ) (x : ℤ) → k < 64 → x ≡ pos 64 *ℤ c +ℤ pos k → spread (row_of_words words c y) (suc (suc k)) ≡ plane_of_words words (x +ℤ pos 1) y
spread_east words c y k x h e = go (nat_eq k 63) refl
  where
    go : (b : Bool) → nat_eq k 63 ≡ b → spread (row_of_words words c y) (suc (suc k)) ≡ plane_of_words words (x +ℤ pos 1) y
    go true is =
        let same : k ≡ 63 = grind arith in
        let first : 0 < 64 = omega arith in
        ap (λ j. spread (row_of_words words c y) (suc (suc j))) same ∙ spread_last words c y
        ∙ sym (cell_of_word words (c +ℤ pos 1) y 0 (x +ℤ pos 1) first (omega (arith, ints)))
    go false is =
        let lt : suc k < 64 = grind arith in
        spread_within words c y (suc k) lt ∙ sym (cell_of_word words c y (suc k) (x +ℤ pos 1) lt (omega (arith, ints)))

-- ---- the rule

-- a bit of the next word is the next generation of its cell
pub next_bit_is_step : (words : Words) (c y : ℤ) (k : ℕ) (x : ℤ) → k < 64 → x ≡ pos 64 *ℤ c +ℤ pos k
    → next_bit (row_of_words words c (y -ℤ pos 1)) (row_of_words words c y) (row_of_words words c (y +ℤ pos 1)) k ≡ step (plane_of_words words) x y
unfolding next_bit step
next_bit_is_step words c y k x h e =
    let north = y -ℤ pos 1 in
    let south = y +ℤ pos 1 in
    rw (
      spread_west words c north k x h e,
      spread_here words c north k x h e,
      spread_east words c north k x h e,
      spread_west words c y k x h e,
      spread_here words c y k x h e,
      spread_east words c y k x h e,
      spread_west words c south k x h e,
      spread_here words c south k x h e,
      spread_east words c south k x h e,
    ) refl

-- the plane of the next words is the next generation
pub next_words_step : (words next : Words) → AreNextWords words next → plane_of_words next ≡ step (plane_of_words words)
unfolding plane_of_words
next_words_step words next are = same_plane _ _ (λ x y.
    let below = offset_below x in
    (are.each (part x) y).bits (offset x) below ∙ next_bit_is_step words (part x) y (offset x) x below (part_and_offset x))
