-- What a test of two numbers says.
use Rattle.std.proofs.Common.{◌≡◌, ◌↔◌, IsTrue, ℤ, pos, ◌+ℤ◌, ◌-ℤ◌, ◌≤ℤ◌, inl, inr, arith}
use Rattle.std.specs.Prelude.{◌||◌}
use lib.Signed.{le_z}
use Rattle.std.proofs.lemmas.Int.{ints}
use Rattle.std.proofs.lemmas.Bool.{or_cases, or_left, or_right}
use Rattle.life_plane.specs.NumberLaws.{le_from_test, test_from_le}
use Rattle.life_cone.specs.Sides.{IsBesideStrip}

-- the two tests of v against a strip
pub beside_test : (v under over low high x y : ℤ) → v ≡ x +ℤ y → under ≡ low -ℤ pos 5 → over ≡ high +ℤ pos 5 → IsTrue (le_z v under || le_z over v) ↔ IsBesideStrip low high x y
beside_test v under over low high x y ev eu eo = (
  λ h. elim (or_cases (le_z v under) (le_z over v) h) [
    | inl k ↦ let le : v ≤ℤ under = le_from_test k in record { side = inl (omega (arith, ints)) }
    | inr k ↦ let le : over ≤ℤ v = le_from_test k in record { side = inr (omega (arith, ints)) }
  ],
  λ p. elim p.side [
    | inl k ↦ or_left (le_z v under) (le_z over v) (test_from_le {a = v} {b = under} (omega (arith, ints)))
    | inr k ↦ or_right (le_z v under) (le_z over v) (test_from_le {a = over} {b = v} (omega (arith, ints)))
  ],
)
