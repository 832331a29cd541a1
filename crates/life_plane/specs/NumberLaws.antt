-- Laws of numbers and of their tests that std lacks.
use Rattle.std.specs.Prelude.{◌≡◌, ◌⊎◌, ℕ, ◌+◌, ◌<◌, Bool, true, false, ℤ, ◌≤ℤ◌, ◌<ℤ◌}
use Rattle.std.proofs.Common.{refl, sym, subst, arith}
use Rattle.std.proofs.lemmas.Int.{ints}
use lib.Dec.{T}
use lib.Signed.{le_z, lt_z}

-- a test that holds is true; `T_from_true` of std's lemmas on floats is the way back
pub true_from_T : (b : Bool) → T b → b ≡ true
true_from_T true h = refl
true_from_T false h = absurd h

-- what `<=` and `<` say of integers; `int_le` is `le_z`, and `int_lt` is `lt_z`
pub le_from_test : {a b : ℤ} → le_z a b ≡ true → a ≤ℤ b
le_from_test h = record { le = subst T (sym h) tt }

pub test_from_le : {a b : ℤ} → a ≤ℤ b → le_z a b ≡ true
test_from_le {a} {b} h = true_from_T (le_z a b) h.le

pub lt_from_test : {a b : ℤ} → lt_z a b ≡ true → a <ℤ b
lt_from_test h = record { lt = subst T (sym h) tt }

pub test_from_lt : {a b : ℤ} → a <ℤ b → lt_z a b ≡ true
test_from_lt {a} {b} h = true_from_T (lt_z a b) h.lt

-- of two integers the first is below the second or not
pub cases_below : (a b : ℤ) → (a <ℤ b) ⊎ (b ≤ℤ a)
cases_below a b = grind (arith, ints)

pub lt_or_same : (k i : ℕ) → k < i + 1 → (k < i) ⊎ (k ≡ i)
lt_or_same k i h = grind arith
