-- The laws of tests on bytes, and of the digits that a number is written in.
use Rattle.std.specs.Prelude.{◌≡◌, ◌≢◌, ℕ, ◌<◌, ◌≤◌, ◌^◌, Bool, true, not, ◌||◌, ◌==◌, List, [], ◌∷◌, ◌++◌}
use Rattle.std.specs.List.{list_all}
use Rattle.std.specs.Str.{all_ascii_digits}
use Rattle.std.specs.Str.Parse.{digits_value}
use Rattle.std.specs.Fmt.{decimal}
use Rattle.std.proofs.Common.{refl, ap, ◌∙◌, arith}
use Rattle.std.proofs.lemmas.Fmt.{decimal_nonempty, digits_decimal, digits_value-decimal, length-decimal-le}
use Rattle.std.proofs.lemmas.Str.Parse.{IsNumeralModel, numerals_by_value, tells_all_ascii_digits}
use Rattle.std.proofs.lemmas.List.Folds.{list_all-append}
use Rattle.std.proofs.lemmas.List.Sums.{AllPass-from_list_all, list_all-from_AllPass}
use Rattle.std.proofs.lemmas.Bool.{ne_eqb, leb-true, and_from, and_parts}
use Rattle.rle_items.specs.Numbers.{IsDigits, IsNatural, value}

-- ---- tests of all bytes

pub weaker : (p q : ℕ → Bool) → ((b : ℕ) → p b ≡ true → q b ≡ true) → (bs : List ℕ) → list_all p bs ≡ true → list_all q bs ≡ true
weaker p q f bs h = list_all-from_AllPass q bs (λ i d l. f _ (AllPass-from_list_all p bs h i d l))

pub all_append : (p : ℕ → Bool) (a b : List ℕ) → list_all p a ≡ true → list_all p b ≡ true → list_all p (a ++ b) ≡ true
all_append p a b h k = list_all-append p a b ∙ and_from _ _ h k

-- ---- digits

own : IsNumeralModel (λ ds. all_ascii_digits ds ≡ true) (digits_value 10)
own = numerals_by_value (λ ds. all_ascii_digits ds ≡ true) tells_all_ascii_digits

pub small_fits : (n : ℕ) → n < 10 ^ 18 → n < 2 ^ 64
small_fits n h = omega arith

pub decimal_digits : (n : ℕ) → n < 2 ^ 64 → IsDigits (decimal n)
decimal_digits n h = record { some = decimal_nonempty n h; digits = digits_decimal own n h }

pub decimal_value : (n : ℕ) → n < 2 ^ 64 → value (decimal n) ≡ n
decimal_value n h = digits_value-decimal own n h

-- a number below 10^18 is written in at most 18 digits, which spell it
pub decimal_natural : (n : ℕ) → n < 10 ^ 18 → IsNatural (decimal n) n
decimal_natural n h = record { digits = decimal_digits n (small_fits n h); short = length-decimal-le 18 n (omega arith) h (small_fits n h); is = decimal_value n (small_fits n h) }

-- a test that each byte from 48 to 57 passes, passes digits
digits_pass : (p : ℕ → Bool) → ((b : ℕ) → 48 ≤ b → b ≤ 57 → p b ≡ true) → (ds : List ℕ) → all_ascii_digits ds ≡ true → list_all p ds ≡ true
digits_pass p f [] h = refl
digits_pass p f (d ∷ ds) h = and_from _ _ (f d (leb-true 48 d (and_parts _ _ (and_parts _ _ h).0).0) (leb-true d 57 (and_parts _ _ (and_parts _ _ h).0).1)) (digits_pass p f ds (and_parts _ _ h).1)

pub decimal_passes : (p : ℕ → Bool) → ((b : ℕ) → 48 ≤ b → b ≤ 57 → p b ≡ true) → (n : ℕ) → n < 2 ^ 64 → list_all p (decimal n) ≡ true
decimal_passes p f n h = digits_pass p f (decimal n) (digits_decimal own n h)

-- ---- other bytes

-- neither a line feed nor a carriage return
abbrev pub is_inner : ℕ → Bool
is_inner b = not (b == 10 || b == 13)

-- no `#`
abbrev pub is_item_byte : ℕ → Bool
is_item_byte b = not (b == 35)

-- neither a space nor a tab
abbrev pub is_word_byte : ℕ → Bool
is_word_byte b = not (b == 32 || b == 9)

two_apart : (b m n : ℕ) → b ≢ m → b ≢ n → not (b == m || b == n) ≡ true
two_apart b m n h k = rw (ne_eqb b m h, ne_eqb b n k) refl

pub inner_digit : (b : ℕ) → 48 ≤ b → b ≤ 57 → is_inner b ≡ true
inner_digit b h k = two_apart b 10 13 (λ e. omega arith) (λ e. omega arith)

pub item_digit : (b : ℕ) → 48 ≤ b → b ≤ 57 → is_item_byte b ≡ true
item_digit b h k = ap not (ne_eqb b 35 (λ e. omega arith))

pub word_digit : (b : ℕ) → 48 ≤ b → b ≤ 57 → is_word_byte b ≡ true
word_digit b h k = two_apart b 32 9 (λ e. omega arith) (λ e. omega arith)
