-- What a test of two numbers says.
use Rattle.std.proofs.Common.{◌≡◌, Bool, true, false, ℤ, pos, neg_ℤ, ◌+ℤ◌, ◌≤ℤ◌, ◌^◌, w64, to_z, of_z, arith, Result, Ok, Err, IfOk, IsTrue, ◌↔◌, MatchBool, sym, subst}
use lib.Signed.{le_z}
use Rattle.std.proofs.lemmas.Int.{ints}
use Rattle.life_plane.specs.NumberLaws.{le_from_test, test_from_le}
use Rattle.recipe_hit.specs.declared.limits.TheConstants.{BEYOND}

-- what holds where a test succeeds
pub holds_if_true : (b : Bool) (P Q : Type 0) → b ≡ true → MatchBool b P Q → P
holds_if_true true P Q is h = h
holds_if_true false P Q is h = cc

-- more of what an Ok tells
pub if_ok : {A E : Type 0} (r : Result A E) (P Q : A → Type 0) → ((a : A) → P a → Q a) → IfOk r P → IfOk r Q
if_ok (Ok a) P Q more h = more a h
if_ok (Err e) P Q more h = h

-- a test of two numbers as they are kept decides what hangs on their order
pub test_decides : (a b x y : ℤ) (P : Type 0) → a ≡ x → b ≡ y → (x ≤ℤ y → P) → (P → x ≤ℤ y) → IsTrue (le_z a b) ↔ P
test_decides a b x y P ea eb from to = (
  λ test. from (subst (λ z. x ≤ℤ z) eb (subst (λ z. z ≤ℤ b) ea (le_from_test test))),
  λ p. test_from_le (subst (λ z. a ≤ℤ z) (sym eb) (subst (λ z. z ≤ℤ y) (sym ea) (to p))),
)

-- a side of a box of cells, moved out by 8,192, keeps 64 bits
pub beyond_kept : (z : ℤ) → neg_ℤ (pos (2 ^ 40)) ≤ℤ z → z ≤ℤ pos (2 ^ 40) → to_z w64 (of_z w64 (to_z w64 (of_z w64 z) +ℤ BEYOND)) ≡ z +ℤ BEYOND
beyond_kept z low high = omega (arith, ints)
