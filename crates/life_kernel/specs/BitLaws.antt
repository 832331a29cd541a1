-- The laws of bits: one bit of a word as a Bool, through each operation.
use Rattle.std.proofs.Common.{◌≡◌, ℕ, zero, suc, ◌+◌, ◌-◌, ◌*◌, ◌/◌, ◌%◌, ◌^◌, ◌<◌, ◌≤◌, min, max, Bool, true, false, ◌&&◌, ◌||◌, ◌==◌, nat_eq, cond, refl, sym, ap, ap₂, ◌∙◌, subst, arith, mul_assoc, mod-lt, zero-lt-suc, le_of_suc-le-suc, not-suc-le-zero}
use Rattle.std.specs.Int.{bit_at}
use Rattle.std.proofs.lemmas.Nat.Bits.{bit_at_and, bit_at_or, bit_at_xor, bit_at_above}
use lib.Bits.{bit_and, bit_or, bit_xor, shifted_even}
use lib.Pow.{field, mod-mod-pow, shr-shr, shl-shr, pow-add}
use Rattle.life_kernel.specs.Rows.{test, column}

abbrev pub xor : Bool → Bool → Bool
xor true true = false
xor true false = true
xor false b = b

bit_cases : (P : ℕ → Type 0) → P 0 → P 1 → (x : ℕ) → x < 2 → P x
bit_cases P p q zero h = p
bit_cases P p q (suc zero) h = q
bit_cases P p q (suc (suc r)) h = absurd (not-suc-le-zero (le_of_suc-le-suc (le_of_suc-le-suc h)))

bit_lt : (n i : ℕ) → bit_at n i < 2
bit_lt n i = mod-lt (n / 2 ^ i) (zero-lt-suc 1)

two_bits : (P : ℕ → ℕ → Type 0) → P 0 0 → P 0 1 → P 1 0 → P 1 1 → (a b i : ℕ) → P (bit_at a i) (bit_at b i)
two_bits P p q r s a b i =
    bit_cases (λ x. P x (bit_at b i)) (bit_cases (P 0) p q (bit_at b i) (bit_lt b i)) (bit_cases (P 1) r s (bit_at b i) (bit_lt b i)) (bit_at a i) (bit_lt a i)

pub test-and : (a b i : ℕ) → test (bit_and a b) i ≡ (test a i && test b i)
unfolding test
test-and a b i = ap (λ n. n == 1) (bit_at_and a b i) ∙ two_bits (λ x y. (min x y == 1) ≡ ((x == 1) && (y == 1))) refl refl refl refl a b i

pub test-or : (a b i : ℕ) → test (bit_or a b) i ≡ (test a i || test b i)
unfolding test
test-or a b i = ap (λ n. n == 1) (bit_at_or a b i) ∙ two_bits (λ x y. (max x y == 1) ≡ ((x == 1) || (y == 1))) refl refl refl refl a b i

pub test-xor : (a b i : ℕ) → test (bit_xor a b) i ≡ xor (test a i) (test b i)
unfolding test
test-xor a b i = ap (λ n. n == 1) (bit_at_xor a b i) ∙ two_bits (λ x y. ((x + y) % 2 == 1) ≡ xor (x == 1) (y == 1)) refl refl refl refl a b i

test-mod : (n i : ℕ) → i < 64 → test (n % 2 ^ 64) i ≡ test n i
unfolding test
test-mod n i h =
    let m = 63 - i in
    let e : m + 1 + i ≡ 64 = omega arith in
    ap (λ x. x == 1) (subst (λ w. bit_at (n % 2 ^ w) i ≡ bit_at n i) e (ap (λ x. x % 2) (field n (m + 1) i) ∙ mod-mod-pow (n / 2 ^ i) m 1))

test-shl_high : (k j y : ℕ) → k + j < 64 → test (y * 2 ^ k % 2 ^ 64) (k + j) ≡ test y j
unfolding test
test-shl_high k j y h = test-mod (y * 2 ^ k) (k + j) h ∙ ap (λ x. x % 2 == 1) (sym (shr-shr (y * 2 ^ k) k j) ∙ ap (λ x. x / 2 ^ j) (shl-shr y k))

test-shl_low : (k i y : ℕ) → i < k → i < 64 → test (y * 2 ^ k % 2 ^ 64) i ≡ false
unfolding test
test-shl_low k i y lt h =
    let m = k - i - 1 in
    let e : suc m + i ≡ k = omega arith in
    let moved : y * 2 ^ (suc m + i) / 2 ^ i ≡ y * 2 ^ suc m = ap (λ x. x / 2 ^ i) (ap (λ x. y * x) (pow-add 2 (suc m) i) ∙ sym (mul_assoc y (2 ^ suc m) (2 ^ i))) ∙ shl-shr (y * 2 ^ suc m) i in
    test-mod (y * 2 ^ k) i h ∙ ap (λ x. x == 1) (subst (λ w. bit_at (y * 2 ^ w) i ≡ 0) e (ap (λ x. x % 2) moved ∙ shifted_even y m))

-- a shift to the right moves bit r + i to bit i
pub test-shr : (r i x : ℕ) → test (x / 2 ^ r) i ≡ test x (r + i)
unfolding test
test-shr r i x = ap (λ v. v % 2 == 1) (shr-shr x r i)

-- a number of 64 bits has no bit from 64 on
test-above : (a i : ℕ) → a < 2 ^ 64 → 64 ≤ i → test a i ≡ false
unfolding test
test-above a i h le = ap (λ x. x == 1) (bit_at_above a 64 i h le)

test-one_suc : (i : ℕ) → test 1 (suc i) ≡ false
unfolding test
test-one_suc i =
    let one : 1 < 2 ^ 1 = omega arith in
    let le : 1 ≤ suc i = omega arith in
    ap (λ x. x == 1) (bit_at_above 1 1 (suc i) one le)

test-one_zero : test 1 0 ≡ true
unfolding test
test-one_zero = refl

and-true : (b : Bool) → (b && true) ≡ b
and-true true = refl
and-true false = refl

and-false : (b : Bool) → (b && false) ≡ false
and-false true = refl
and-false false = refl

or-false : (b : Bool) → (b || false) ≡ b
or-false true = refl
or-false false = refl

below_64 : (i : ℕ) → i < 64 → nat_eq i 64 ≡ false
below_64 i h = grind arith

-- the neighbours to the west: the row moved up by one bit, with the western end in bit 0
pub west_word : (a x : ℕ) (east : Bool) (k : ℕ) → k < 64
    → test (bit_or (a * 2 ^ 1 % 2 ^ 64) (bit_and x 1)) k ≡ column a (test x 0) east k
unfolding column
west_word a x east zero h =
    let low : 0 < 1 = omega arith in
    test-or _ _ 0 ∙ ap₂ (λ p q. p || q) (test-shl_low 1 0 a low h) (test-and x 1 0 ∙ ap (λ q. test x 0 && q) test-one_zero ∙ and-true (test x 0))
west_word a x east (suc i) h =
    let e : 1 + i ≡ suc i = omega arith in
    let at : 1 + i < 64 = omega arith in
    let below : i < 64 = omega arith in
    test-or _ _ (suc i)
    ∙ ap₂ (λ p q. p || q) (ap (test (a * 2 ^ 1 % 2 ^ 64)) (sym e) ∙ test-shl_high 1 i a at) (test-and x 1 (suc i) ∙ ap (λ q. test x (suc i) && q) (test-one_suc i) ∙ and-false (test x (suc i)))
    ∙ or-false (test a i)
    ∙ sym (ap (λ b. cond b east (test a i)) (below_64 i below))

-- the cells themselves
pub own_word : (a : ℕ) (west east : Bool) (k : ℕ) → k < 64 → test a k ≡ column a west east (suc k)
unfolding column
own_word a west east k h = sym (ap (λ b. cond b east (test a k)) (below_64 k h))

east_inner : (a x : ℕ) (west : Bool) (k : ℕ) → k < 63
    → test (bit_or (a / 2 ^ 1) (x * 2 ^ 63 % 2 ^ 64)) k ≡ column a west (test x 0) (suc (suc k))
unfolding column
east_inner a x west k h =
    let e : 1 + k ≡ suc k = omega arith in
    let below : suc k < 64 = omega arith in
    let at : k < 64 = omega arith in
    test-or _ _ k
    ∙ ap₂ (λ p q. p || q) (test-shr 1 k a ∙ ap (test a) e) (test-shl_low 63 k x h at)
    ∙ or-false (test a (suc k))
    ∙ sym (ap (λ b. cond b (test x 0) (test a (suc k))) (below_64 (suc k) below))

east_last : (a x : ℕ) (west : Bool) → a < 2 ^ 64
    → test (bit_or (a / 2 ^ 1) (x * 2 ^ 63 % 2 ^ 64)) 63 ≡ column a west (test x 0) 65
unfolding column
east_last a x west fits =
    let le : 64 ≤ 1 + 63 = omega arith in
    let at : 63 + 0 < 64 = omega arith in
    test-or _ _ 63
    ∙ ap₂ (λ p q. p || q) (test-shr 1 63 a ∙ test-above a (1 + 63) fits le) (test-shl_high 63 0 x at)

-- the neighbours to the east: the row moved down by one bit, with the eastern end in bit 63
pub east_word : (a x : ℕ) (west : Bool) (k : ℕ) → a < 2 ^ 64 → k < 64
    → test (bit_or (a / 2 ^ 1) (x * 2 ^ 63 % 2 ^ 64)) k ≡ column a west (test x 0) (suc (suc k))
east_word a x west k fits h = go (nat_eq k 63) refl
  where
    go : (b : Bool) → nat_eq k 63 ≡ b → test (bit_or (a / 2 ^ 1) (x * 2 ^ 63 % 2 ^ 64)) k ≡ column a west (test x 0) (suc (suc k))
    go true e =
        let same : k ≡ 63 = grind arith in
        subst (λ i. test (bit_or (a / 2 ^ 1) (x * 2 ^ 63 % 2 ^ 64)) i ≡ column a west (test x 0) (suc (suc i))) (sym same) (east_last a x west fits)
    go false e =
        let lt : k < 63 = grind arith in
        east_inner a x west k lt
