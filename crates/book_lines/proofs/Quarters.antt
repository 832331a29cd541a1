-- Multiples of 4 within limits.
use Rattle.std.proofs.Common.{◌≡◌, ℕ, ◌/◌, ◌%◌, ℤ, pos, negsuc, ◌*ℤ◌, true, arith, nat_eq}
use lib.Signed.{rem_z}
use mir.Syntax.{w64}
use mir.Val.{of_z}
use Rattle.std.proofs.lemmas.Int.{ints}
use Rattle.std.proofs.lemmas.Bool.Decides.{nat_tests}
use Rattle.book_parts.specs.Limits.{IsFrom, IsApproach}
use Rattle.book_parts.specs.declared.limits.TheConstants.{LEAST_APPROACH, GREATEST_APPROACH}

zero_test : (n : ℕ) → nat_eq n 0 ≡ true → n ≡ 0
zero_test n e = grind (arith, nat_tests)

zero_tested : (n : ℕ) → n ≡ 0 → nat_eq n 0 ≡ true
zero_tested n e = grind (arith, nat_tests)

pub approach_is : (z : ℤ) → IsFrom LEAST_APPROACH GREATEST_APPROACH z → nat_eq (of_z w64 (rem_z z (pos 4))) 0 ≡ true → IsApproach z
approach_is (pos n) within e =
    let r : n % 4 ≡ 0 = zero_test (n % 4) e in
    record { range = within; quarters = pos (n / 4); multiple = omega (arith, ints) }
approach_is (negsuc n) within e = let low = within.low in absurd (omega (arith, ints))

pub approach_tested : (z : ℤ) → IsApproach z → nat_eq (of_z w64 (rem_z z (pos 4))) 0 ≡ true
approach_tested (pos n) h =
    let m = h.multiple in
    let r : n % 4 ≡ 0 = no_rest h.quarters m in
    zero_tested (n % 4) r
  where
    no_rest : (q : ℤ) → pos n ≡ pos 4 *ℤ q → n % 4 ≡ 0
    no_rest (pos k) e = omega (arith, ints)
    no_rest (negsuc k) e = absurd (omega (arith, ints))
approach_tested (negsuc n) h = let low = h.range.low in absurd (omega (arith, ints))
