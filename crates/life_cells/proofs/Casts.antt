-- The lesser and the greater of two numbers, as a cast shows them.
use Rattle.std.proofs.Common.{◌≡◌, w64, to_z, of_z, arith, ap, sym, ◌∙◌}
use Rattle.std.specs.Prelude.{ℤ, pos, ◌+ℤ◌, ◌-ℤ◌, FitsSigned}
use Rattle.std.specs.Int.{int_min, int_max, w128}
use Rattle.std.proofs.lemmas.Int.{ints, to_z-of_z}

pub min_is : (a b r : ℤ) → FitsSigned w64 a → FitsSigned w64 b → FitsSigned w64 r → r ≡ int_min (to_z w64 (of_z w64 a)) (to_z w64 (of_z w64 b)) → to_z w64 (of_z w64 r) ≡ int_min a b
min_is a b r fa fb fr e = to_z-of_z w64 r fr ∙ e ∙ (λ i. int_min (to_z-of_z w64 a fa i) (to_z-of_z w64 b fb i))

pub max_is : (a b r : ℤ) → FitsSigned w64 a → FitsSigned w64 b → FitsSigned w64 r → r ≡ int_max (to_z w64 (of_z w64 a)) (to_z w64 (of_z w64 b)) → to_z w64 (of_z w64 r) ≡ int_max a b
max_is a b r fa fb fr e = to_z-of_z w64 r fr ∙ e ∙ (λ i. int_max (to_z-of_z w64 a fa i) (to_z-of_z w64 b fb i))

-- a sum of numbers, as the casts of a move show it
pub sum_is : (a d : ℤ) → FitsSigned w64 a → FitsSigned w64 d → FitsSigned w64 (a +ℤ d) → to_z w64 (of_z w64 (to_z w64 (of_z w64 a) +ℤ to_z w64 (of_z w64 d))) ≡ a +ℤ to_z w64 (of_z w64 d)
sum_is a d fa fd fs =
    (λ i. to_z w64 (of_z w64 (to_z-of_z w64 a fa i +ℤ to_z-of_z w64 d fd i))) ∙ to_z-of_z w64 (a +ℤ d) fs ∙ ap (λ z. a +ℤ z) (sym (to_z-of_z w64 d fd))

-- ---- wider numbers

wider : (z : ℤ) → FitsSigned w64 z → FitsSigned w128 z
wider z f = omega (arith, ints)

-- a number of 64 bits, as 128 bits
pub wide_is : (z r : ℤ) → FitsSigned w64 z → r ≡ to_z w64 (of_z w64 z) → to_z w128 (of_z w128 r) ≡ z
wide_is z r f e = ap (λ n. to_z w128 (of_z w128 n)) (e ∙ to_z-of_z w64 z f) ∙ to_z-of_z w128 z (wider z f)

sum_fits : (a b : ℤ) → FitsSigned w64 a → FitsSigned w64 b → FitsSigned w128 (a +ℤ b)
sum_fits a b f g = omega (arith, ints)

-- the sum of two such numbers
pub wide_sum : (a b r s : ℤ) → FitsSigned w64 a → FitsSigned w64 b → r ≡ to_z w64 (of_z w64 a) → s ≡ to_z w64 (of_z w64 b) → to_z w128 (of_z w128 (to_z w128 (of_z w128 r) +ℤ to_z w128 (of_z w128 s))) ≡ a +ℤ b
wide_sum a b r s f g d e = (λ i. to_z w128 (of_z w128 (wide_is a r f d i +ℤ wide_is b s g e i))) ∙ to_z-of_z w128 (a +ℤ b) (sum_fits a b f g)

two_fits : (a : ℤ) → FitsSigned w64 a → FitsSigned w128 (a -ℤ pos 2)
two_fits a f = omega (arith, ints)

three_more_fits : (a : ℤ) → FitsSigned w64 a → FitsSigned w128 (a +ℤ pos 3)
three_more_fits a f = omega (arith, ints)

pub wide_less_two : (a r : ℤ) → FitsSigned w64 a → r ≡ to_z w64 (of_z w64 a) → to_z w128 (of_z w128 (to_z w128 (of_z w128 r) -ℤ pos 2)) ≡ a -ℤ pos 2
wide_less_two a r f e = ap (λ z. to_z w128 (of_z w128 (z -ℤ pos 2))) (wide_is a r f e) ∙ to_z-of_z w128 (a -ℤ pos 2) (two_fits a f)

pub wide_and_three : (a r : ℤ) → FitsSigned w64 a → r ≡ to_z w64 (of_z w64 a) → to_z w128 (of_z w128 (to_z w128 (of_z w128 r) +ℤ pos 3)) ≡ a +ℤ pos 3
wide_and_three a r f e = ap (λ z. to_z w128 (of_z w128 (z +ℤ pos 3))) (wide_is a r f e) ∙ to_z-of_z w128 (a +ℤ pos 3) (three_more_fits a f)
