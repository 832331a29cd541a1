-- What the tests of one cell say.
use Rattle.std.proofs.Common.{◌≡◌, ◌↔◌, IsTrue, ℤ, pos, ◌+ℤ◌, ◌-ℤ◌, ◌*ℤ◌, ◌≤ℤ◌, inl, inr, arith}
use Rattle.std.specs.Prelude.{◌||◌}
use lib.Signed.{le_z}
use Rattle.std.proofs.lemmas.Int.{ints}
use Rattle.std.proofs.lemmas.Bool.{or_cases, or_left, or_right}
use Rattle.life_plane.specs.NumberLaws.{le_from_test, test_from_le}
use Rattle.life_scene.specs.Clearance.{Aside}
use Rattle.life_cells.specs.declared.bounds.Bounds.{Bounds}
use Rattle.life_cone.specs.FarBoxes.{AreFarBoxes}
use Rattle.lane_clear.specs.Clear.{IsOffBounds}

-- the box of one cell is far from bounds where the cell is off them
pub far_cell : (x y : ℤ) (b : Bounds) → AreFarBoxes (record { left = x; top = y; right = x; bottom = y }) b ↔ IsOffBounds b x y
far_cell x y b = (
  λ f u v i w. f.far x y u v (record { right_of_left = omega (arith, ints); below_top = omega (arith, ints); left_of_right = omega (arith, ints); above_bottom = omega (arith, ints) }) i w,
  λ off. record {
    far = λ p q u v i j w.
        let il = i.right_of_left in let ir = i.left_of_right in let it = i.below_top in let ib = i.above_bottom in
        let r = w.right in let l = w.left in let d = w.below in let e = w.above in
        off u v j (record { right = omega (arith, ints); left = omega (arith, ints); below = omega (arith, ints); above = omega (arith, ints) });
  },
)

-- the three tests of u and v
pub aside_test : (lane quarter x y u v under over ahead : ℤ) → u ≡ x -ℤ y → v ≡ x +ℤ y → under ≡ lane -ℤ pos 7 → over ≡ lane +ℤ pos 6 → ahead ≡ (lane +ℤ pos 2 *ℤ quarter) +ℤ pos 10 →
    IsTrue ((le_z v under || le_z over v) || le_z ahead u) ↔ Aside lane quarter x y
aside_test lane quarter x y u v under over ahead eu ev el eo ea = (
  λ h. elim (or_cases (le_z v under || le_z over v) (le_z ahead u) h) [
    | inl k ↦ elim (or_cases (le_z v under) (le_z over v) k) [
      | inl m ↦ let le : v ≤ℤ under = le_from_test m in inl (omega (arith, ints))
      | inr m ↦ let le : over ≤ℤ v = le_from_test m in inr (inl (omega (arith, ints)))
    ]
    | inr k ↦ let le : ahead ≤ℤ u = le_from_test k in inr (inr (omega (arith, ints)))
  ],
  λ a. elim a [
    | inl k ↦ let le : v ≤ℤ under = omega (arith, ints) in or_left (le_z v under || le_z over v) (le_z ahead u) (or_left (le_z v under) (le_z over v) (test_from_le le))
    | inr (inl k) ↦ let le : over ≤ℤ v = omega (arith, ints) in or_left (le_z v under || le_z over v) (le_z ahead u) (or_right (le_z v under) (le_z over v) (test_from_le le))
    | inr (inr k) ↦ let le : ahead ≤ℤ u = omega (arith, ints) in or_right (le_z v under || le_z over v) (le_z ahead u) (test_from_le le)
  ],
)
