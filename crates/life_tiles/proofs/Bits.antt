-- Bits of words.
use Rattle.std.proofs.Common.{◌≡◌, ◌⊎◌, ℕ, zero, suc, ◌/◌, ◌^◌, ◌<◌, ◌==◌, Bool, true, false, not, eqb, ◌&&◌, ◌||◌, IsTrue, refl, sym, ap, ap₂, ◌∙◌, arith, rules, inl, inr}
use Rattle.std.specs.Int.{bit_at}
use Rattle.std.proofs.lemmas.Bool.{or_cases}
use Rattle.std.proofs.lemmas.Nat.Bits.{bit_at-zero, bit_at-lt, same_from_bits}
use lib.Bits.{bit_and, bit_or}
use Rattle.life_kernel.specs.BitLaws.{test-and, test-or, test-shr}
use Rattle.life_kernel.specs.Rows.{test}

pub some_bit : (w k : ℕ) → test w k ≡ true → IsTrue (not (eqb w 0))
unfolding test
some_bit w k h = go (eqb w 0) refl
  where
    go : (b : Bool) → eqb w 0 ≡ b → IsTrue (not b)
    go true e =
        let none : w ≡ 0 = grind arith in
        let dark : (bit_at w k == 1) ≡ false = ap (λ n. bit_at n k == 1) none ∙ ap (λ n. n == 1) (bit_at-zero k) in
        cc
    go false e = search rules

test_one : test 1 0 ≡ true
unfolding test
test_one = refl

pub first_bit : (w : ℕ) → test w 0 ≡ true → IsTrue (not (eqb (bit_and w 1) 0))
first_bit w h = some_bit (bit_and w 1) 0 (test-and w 1 0 ∙ ap₂ (λ a b. a && b) h test_one)

pub last_bit : (w : ℕ) → test w 63 ≡ true → IsTrue (not (eqb (w / 2 ^ 63) 0))
last_bit w h = some_bit (w / 2 ^ 63) 0 (test-shr 63 0 w ∙ h)

pub more_bits : (any w k : ℕ) → (test any k ≡ true) ⊎ (test w k ≡ true) → test (bit_or any w) k ≡ true
more_bits any w k h = test-or any w k ∙ by (test any k) (test w k) h
  where
    by : (a b : Bool) → (a ≡ true) ⊎ (b ≡ true) → (a || b) ≡ true
    by true b g = refl
    by false b (inl g) = cc
    by false b (inr g) = g

pub fewer_bits : (any w k : ℕ) → test (bit_or any w) k ≡ true → (test any k ≡ true) ⊎ (test w k ≡ true)
fewer_bits any w k h = or_cases (test any k) (test w k) (sym (test-or any w k) ∙ h)

pub no_bit_set : (k : ℕ) → test 0 k ≡ true → ⊥
unfolding test
no_bit_set k h = let dark : (bit_at 0 k == 1) ≡ false = ap (λ n. n == 1) (bit_at-zero k) in cc

-- a word with no bit is 0
pub no_bit : (w : ℕ) → ((k : ℕ) → test w k ≡ true → ⊥) → w ≡ 0
unfolding test
no_bit w none = same_from_bits w 0 (λ k. by k (bit_at w k) refl (bit_at-lt w k) ∙ sym (bit_at-zero k))
  where
    by : (k d : ℕ) → bit_at w k ≡ d → d < 2 → bit_at w k ≡ 0
    by k zero e h = e
    by k (suc zero) e h = absurd (none k (ap (λ n. n == 1) e))
    by k (suc (suc d)) e h = absurd (omega arith)

pub dark_none : (w k : ℕ) → w ≡ 0 → test w k ≡ true → ⊥
unfolding test
dark_none w k e h = let dark : (bit_at w k == 1) ≡ false = ap (λ n. bit_at n k == 1) e ∙ ap (λ n. n == 1) (bit_at-zero k) in cc
