-- Digits at the front of bytes, and the numbers that they spell.
use Rattle.std.proofs.Common.{◌≡◌, ℕ, ◌+◌, ◌-◌, ◌*◌, ◌<◌, ◌≤◌, ◌^◌, true, List, [], ◌∷◌, length, get_or, take, refl, ap, ◌∙◌, arith}
use Rattle.std.specs.Char.{is_ascii_digit, digit_value}
use Rattle.std.specs.Str.{all_ascii_digits}
use Rattle.std.specs.List.{AllByRecursion}
use Rattle.std.proofs.lemmas.Str.Parse.{IsNumeralModel, numerals_by_value, tells_all_ascii_digits, digit_at, digits_value_short, digits_value-take-le}
use Rattle.std.proofs.lemmas.Int.Digits.{digits_value_more}
use Rattle.std.proofs.lemmas.Bool.{and_from, and_parts}
use Rattle.std.proofs.lemmas.Bool.Decides.{nat_tests}
use Rattle.rle_items.specs.Numbers.{value}
use Rattle.rle_items.specs.Gaps.{IsAtCount}
use Rattle.rle_items.specs.FirstLaws.{IsRun}

digits_model : IsNumeralModel (λ ds. all_ascii_digits ds ≡ true) value
digits_model = numerals_by_value _ tells_all_ascii_digits

-- at most 18 digits spell a small number
pub value_short : (ds : List ℕ) → all_ascii_digits ds ≡ true → length ds ≤ 18 → value ds < 10 ^ 18
value_short ds p h = digits_value_short digits_model ds 18 p h

digit_is : (c : ℕ) → (48 ≤ c) × (c ≤ 57) → digit_value c ≡ c - 48
digit_is c h = grind (arith, nat_tests)

-- a byte of digits is one
pub digit_at_place : (ds : List ℕ) (i : ℕ) → all_ascii_digits ds ≡ true → i < length ds → (48 ≤ get_or ds i 0) × (get_or ds i 0 ≤ 57)
digit_at_place ds i p h = digit_at ds i (digits_model.to ds p) h

pub value_more : (ds : List ℕ) (i : ℕ) → all_ascii_digits ds ≡ true → i < length ds → value (take (i + 1) ds) ≡ value (take i ds) * 10 + (get_or ds i 0 - 48)
value_more ds i p h = digits_value_more 10 ds i h ∙ ap (λ d. value (take i ds) * 10 + d) (digit_is (get_or ds i 0) (digit_at_place ds i p h))

pub value_take_small : (ds : List ℕ) (i : ℕ) → all_ascii_digits ds ≡ true → length ds ≤ 18 → value (take i ds) < 10 ^ 18
value_take_small ds i p h = omega (arith, value_short ds p h, digits_value-take-le 10 ds i (omega arith))

-- digits, one by one
pub each_digit : (ds : List ℕ) → all_ascii_digits ds ≡ true → AllByRecursion (λ b. is_ascii_digit b ≡ true) ds
each_digit [] h = tt
each_digit (d ∷ ds) h = let parts = and_parts _ _ h in (parts.0, each_digit ds parts.1)

all_digits : (ds : List ℕ) → AllByRecursion (λ b. is_ascii_digit b ≡ true) ds → all_ascii_digits ds ≡ true
all_digits [] h = refl
all_digits (d ∷ ds) h = and_from _ _ h.0 (all_digits ds h.1)

pub count_of_run : (bytes digits more : List ℕ) → IsRun is_ascii_digit bytes digits more → IsAtCount bytes digits more
count_of_run bytes digits more h = record { split = h.split; digits_are = all_digits digits h.each; ended = h.ended }
