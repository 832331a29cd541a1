-- The names of the sample: a letter and a number.
use Rattle.std.proofs.Common.{◌≡◌, ℕ, ◌<◌, ◌^◌, true, List, [], ◌∷◌, refl, arith}
use Rattle.std.specs.Prelude.{◌≢◌, ◌==◌}
use Rattle.std.specs.List.{list_all}
use Rattle.std.specs.Fmt.{decimal}
use Rattle.std.specs.Str.{all_ascii_digits}
use Rattle.std.specs.Char.{is_ascii_digit}
use Rattle.std.specs.Str.Parse.{digits_value}
use Rattle.std.proofs.lemmas.Fmt.{digits_decimal, length-decimal-le, decimal_injective}
use Rattle.std.proofs.lemmas.Str.Parse.{IsNumeralModel, numerals_by_value, tells_all_ascii_digits}
use Rattle.std.proofs.lemmas.Bool.{and_from, and_parts, or_right, or_left}
use Rattle.book_parts.specs.Limits.{IsName, is_letter, is_name_byte}

digits : IsNumeralModel (λ ds. all_ascii_digits ds ≡ true) (digits_value 10)
digits = numerals_by_value (λ ds. all_ascii_digits ds ≡ true) tells_all_ascii_digits

digits_in_names : (ds : List ℕ) → all_ascii_digits ds ≡ true → list_all is_name_byte ds ≡ true
digits_in_names [] h = refl
digits_in_names (d ∷ ds) h =
    let here : is_ascii_digit d ≡ true = (and_parts (is_ascii_digit d) (all_ascii_digits ds) h).0 in
    let rest = (and_parts (is_ascii_digit d) (all_ascii_digits ds) h).1 in
    and_from (is_name_byte d) (list_all is_name_byte ds) (or_right (is_letter d) _ (or_left (is_ascii_digit d) (d == 95) here)) (digits_in_names ds rest)

-- k and t are no n
pub letter_and_number : (letter i : ℕ) → is_letter letter ≡ true → (letter ≡ 110 → ⊥) → i < 100 → IsName (letter ∷ decimal i)
letter_and_number letter i is other few =
    let short = length-decimal-le 2 i (omega arith) few (omega arith) in
    let letter_in : is_name_byte letter ≡ true = or_left (is_letter letter) _ is in
    record {
      first = is;
      short = omega arith;
      bytes = and_from (is_name_byte letter) (list_all is_name_byte (decimal i)) letter_in (digits_in_names (decimal i) (digits_decimal digits i (omega arith)));
      other = λ e. other (cc);
    }

-- different numbers make different names
pub names_differ : (letter i j : ℕ) → i < 2 ^ 64 → j < 2 ^ 64 → i < j → (letter ∷ decimal i) ≢ (letter ∷ decimal j)
names_differ letter i j a b less e = let same : i ≡ j = decimal_injective i j a b (cc) in omega arith
