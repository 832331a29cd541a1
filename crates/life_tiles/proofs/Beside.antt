-- Numbers beside a number.
use Rattle.std.proofs.Common.{◌≡◌, ◌⊎◌, ℕ, zero, suc, ◌+◌, ◌<◌, ℤ, pos, negsuc, ◌+ℤ◌, ◌-ℤ◌, ◌*ℤ◌, ◌≤ℤ◌, refl, arith, inl, inr}
use Rattle.std.proofs.lemmas.Bool.{cases_lt}
use Rattle.std.proofs.lemmas.Int.{ints}
use Rattle.life_kernel.specs.Words.{part}
use Rattle.life_kernel.specs.WordLaws.{part_is}

-- a number at most 1 from z lies in z's part of 64, or in the one before or after
pub record Beside (c : ℤ) (k : ℕ) (w : ℤ) : Type 0 where
  pub cases : (part w ≡ c) ⊎ (((k ≡ 0) × (part w ≡ c -ℤ pos 1)) ⊎ ((k ≡ 63) × (part w ≡ c +ℤ pos 1)))

pub beside : (c : ℤ) (k : ℕ) (z w : ℤ) → k < 64 → z ≡ pos 64 *ℤ c +ℤ pos k → w ≤ℤ (z +ℤ pos 1) → z ≤ℤ (w +ℤ pos 1) → Beside c k w
beside c k z w h e right left = from ((w +ℤ pos 1) -ℤ z) refl
  where
    at : (m : ℕ) → (w +ℤ pos 1) -ℤ z ≡ pos m → (j : ℕ) → j ≡ k + m → Beside c k w
    at m is zero same =
        let last : 63 < 64 = omega arith in
        record { cases = inr (inl (omega arith, part_is (c -ℤ pos 1) 63 w last (omega (arith, ints)))) }
    at m is (suc i) same = elim (cases_lt i 64) [
      | inl lt ↦ record { cases = inl (part_is c i w lt (omega (arith, ints))) }
      | inr ge ↦
          let first : 0 < 64 = omega arith in
          record { cases = inr (inr (omega (arith, ints), part_is (c +ℤ pos 1) 0 w first (omega (arith, ints)))) }
    ]

    from : (d : ℤ) → (w +ℤ pos 1) -ℤ z ≡ d → Beside c k w
    from (pos m) is = at m is (k + m) refl
    from (negsuc n) is = absurd (omega (arith, ints))
