-- What the test of a kind's cell says.
use Rattle.std.proofs.Common.{◌≡◌, ℤ, pos, ◌+ℤ◌, ◌-ℤ◌, ◌*ℤ◌, ◌≤ℤ◌, ◌↔◌, IsTrue, arith}
use lib.Signed.{le_z}
use Rattle.std.proofs.lemmas.Int.{ints}
use Rattle.life_plane.specs.NumberLaws.{le_from_test, test_from_le}
use Rattle.book_parts.specs.declared.settings.Settings.{Settings}
use Rattle.recipe_turn.specs.declared.bounds.TheConstants.{KIND_MARGIN}
use Rattle.recipe_turn.specs.Kind.{IsInPlace}

-- where the wall is kept, the place hangs on the tail
pub tail_decides : (settings : Settings) (x y ahead : ℤ) → (x -ℤ y) ≤ℤ settings.wall → ahead ≡ pos 2 *ℤ (x +ℤ y) +ℤ settings.approach →
    IsTrue (le_z (KIND_MARGIN) ahead) ↔ IsInPlace settings x y
tail_decides settings x y ahead kept ea = (
  λ h. let tail = le_from_test {a = KIND_MARGIN} {b = ahead} h in record { wall = kept; tail = omega (arith, ints) },
  λ p. let tail = p.tail in test_from_le {a = KIND_MARGIN} {b = ahead} (omega (arith, ints)),
)
