-- The quarter of an index in which a glider is: floor(j/4).
use Rattle.std.specs.Prelude.{ℤ, pos, negsuc, ◌+ℤ◌, ◌*ℤ◌, ◌≤ℤ◌}
use Rattle.std.specs.Int.{int_div_euclid}
use Rattle.std.proofs.Common.{arith}
use Rattle.std.proofs.lemmas.Int.{ints}

-- floor(j/4) is at most j/4
pub quarters_below : (j : ℤ) → (pos 4 *ℤ int_div_euclid j (pos 4)) ≤ℤ j
quarters_below (pos n) = omega (arith, ints)
quarters_below (negsuc n) = omega (arith, ints)

-- and less than one below it
pub quarters_above : (j : ℤ) → j ≤ℤ (pos 4 *ℤ int_div_euclid j (pos 4) +ℤ pos 3)
quarters_above (pos n) = omega (arith, ints)
quarters_above (negsuc n) = omega (arith, ints)
