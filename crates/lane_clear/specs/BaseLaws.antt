-- Laws of tests and numbers that several proofs need.
use Rattle.std.proofs.Common.{◌≡◌, Bool, true, false, ℤ, pos, ◌≤ℤ◌, refl, arith}
use Rattle.std.specs.Prelude.{negsuc, unsigned_abs}
use Rattle.std.proofs.lemmas.Int.{ints}

-- a test answers one thing
pub not_both : {b : Bool} → b ≡ false → b ≡ true → ⊥
not_both f t = cc

-- a number that isn't negative
pub whole : (z : ℤ) → pos 0 ≤ℤ z → pos (unsigned_abs z) ≡ z
whole (pos n) h = refl
whole (negsuc n) h = absurd (omega (arith, ints))
