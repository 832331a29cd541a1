-- Numbers are read from what is written for them.
use Rattle.std.proofs.Common.{ℕ, suc, ◌<◌, ◌^◌, List, [], ◌∷◌, length, map, refl, arith, inl, inr, ℤ, pos, negsuc, neg_ℤ, ◌≤ℤ◌}
use Rattle.std.specs.List.{AllByRecursion, AllZip}
use Rattle.std.specs.Fmt.{decimal, signed_decimal}
use Rattle.std.proofs.lemmas.Int.{ints}
use Rattle.life_rle.specs.ByteLaws.{decimal_natural, decimal_passes, small_fits}
use Rattle.book_lines.specs.Values.{IsNumber, IsNumberAt, AreNumbersAt}
use Rattle.book_lines.specs.Values.Level.{Whole}
use Rattle.book_write.proofs.Visible.{is_visible, digit_visible, IsWord}

-- a number of at most 18 digits
abbrev pub IsShort : ℤ → Type 0
IsShort (pos n) = n < 10 ^ 18
IsShort (negsuc n) = suc n < 10 ^ 18

pub short_from : (z : ℤ) → neg_ℤ (pos (2 ^ 40)) ≤ℤ z → z ≤ℤ pos (2 ^ 40) → IsShort z
short_from (pos n) low high = omega (arith, ints)
short_from (negsuc n) low high = omega (arith, ints)

decimal_word : (n : ℕ) → n < 10 ^ 18 → IsWord (decimal n)
decimal_word n h = record { some = (decimal_natural n h).digits.some; bytes = decimal_passes is_visible digit_visible n (small_fits n h) }

pub number_word : (z : ℤ) → IsShort z → IsWord (signed_decimal z)
number_word (pos n) h = decimal_word n h
number_word (negsuc n) h = let w = decimal_word (suc n) h in record { some = omega arith; bytes = w.bytes }

pub number_is : (z : ℤ) → IsShort z → IsNumber (signed_decimal z) z
number_is (pos n) h = inl (n, (decimal_natural n h, refl))
number_is (negsuc n) h = inr (decimal (suc n), (suc n, (refl, (decimal_natural (suc n) h, refl))))

pub number_at : (z : ℤ) → IsShort z → IsNumberAt Whole (signed_decimal z) z
number_at z h = number_is z h

-- lists of numbers
pub number_words : (zs : List ℤ) → AllByRecursion IsShort zs → AllByRecursion IsWord (map signed_decimal zs)
number_words [] h = tt
number_words (z ∷ zs) h = (number_word z h.0, number_words zs h.1)

each_number : (zs : List ℤ) → AllByRecursion IsShort zs → AllZip (IsNumberAt Whole) (map signed_decimal zs) zs
each_number [] h = tt
each_number (z ∷ zs) h = (number_at z h.0, each_number zs h.1)

some_numbers : (zs : List ℤ) → 0 < length zs → 0 < length (map signed_decimal zs)
some_numbers [] h = h
some_numbers (z ∷ zs) h = omega arith

pub numbers_at : (zs : List ℤ) → AllByRecursion IsShort zs → 0 < length zs → AreNumbersAt Whole (map signed_decimal zs) zs
numbers_at zs h some = record { each = each_number zs h; some = some_numbers zs some }
