-- The name of what is found, letter by letter.
use Rattle.std.proofs.Common.{◌≡◌, ◌⊎◌, ℕ, zero, suc, ◌+◌, ◌%◌, ◌<◌, ◌≤◌, ◌^◌, Bool, true, ◌&&◌, cond, List, [], ◌∷◌, ◌++◌, length, drop, filter, replicate, get_or, refl, sym, ap, subst, ◌∙◌, inl, inr, arith, append_assoc, add-one, codes, nat_lt}
use Rattle.std.proofs.lemmas.Bool.{cases_lt}
use Rattle.std.proofs.lemmas.Bool.Decides.{nat_tests}
use Rattle.std.proofs.lemmas.List.{length-append, length-replicate, replicate-append-replicate, append-nil}
use Rattle.std.proofs.lemmas.List.Elements.{filter-append}
use Rattle.std.proofs.lemmas.List.Folds.{list_all-append}
use Rattle.std.proofs.lemmas.Fmt.{decimal_by_steps, decimal_injective}
use Rattle.std.specs.Fmt.{decimal}
use Rattle.std.specs.List.{list_all}
use Rattle.book_parts.specs.Limits.{IsName, is_name_byte}
use Rattle.book_parts.specs.Proper.{IsNoneOf}
use Rattle.recipe_find.specs.Names.{found_name, IsNewName}

-- ---- letter by letter

-- the bytes so far are such a name, and no shorter one is new
pub record IsTried (others : List (List ℕ)) (number : ℕ) (bytes : List ℕ) : Type 0 where
  pub letters : ℕ
  pub is : bytes ≡ found_name number letters
  pub fewer : (n : ℕ) → n < letters → IsNoneOf others (found_name number n) → ⊥

pub first_tried : (others : List (List ℕ)) (number : ℕ) (bytes : List ℕ) → bytes ≡ codes "found" ++ decimal number → IsTried others number bytes
first_tried others number bytes e = record {
  letters = 0;
  is = e ∙ ap (λ l. codes "found" ++ l) (sym (append-nil (decimal number)));
  fewer = λ n lt. absurd (omega arith);
}

one_letter : (number letters : ℕ) → found_name number letters ++ (120 ∷ []) ≡ found_name number (suc letters)
one_letter number letters =
    append_assoc (codes "found") (decimal number ++ replicate letters 120) (120 ∷ [])
    ∙ ap (λ l. codes "found" ++ l) (append_assoc (decimal number) (replicate letters 120) (120 ∷ []))
    ∙ ap (λ l. codes "found" ++ (decimal number ++ l)) (replicate-append-replicate letters 1 120 ∙ ap (λ k. replicate k 120) (add-one letters))

pub next_tried : (others : List (List ℕ)) (number : ℕ) (bytes after : List ℕ) → IsTried others number bytes → (IsNoneOf others bytes → ⊥) → after ≡ bytes ++ (120 ∷ []) → IsTried others number after
next_tried others number bytes after h old e = record {
  letters = suc h.letters;
  is = e ∙ ap (λ l. l ++ (120 ∷ [])) h.is ∙ one_letter number h.letters;
  fewer = λ n lt. by n lt (cases_lt n h.letters);
}
  where
    by : (n : ℕ) → n < suc h.letters → (n < h.letters) ⊎ (h.letters ≤ n) → IsNoneOf others (found_name number n) → ⊥
    by n lt (inl less) none = h.fewer n less none
    by n lt (inr least) none =
        let same : n ≡ h.letters = omega arith in
        old (subst (IsNoneOf others) (ap (found_name number) same ∙ sym h.is) none)

length_found : (number letters : ℕ) → length (found_name number letters) ≡ 5 + (length (decimal number) + letters)
length_found number letters =
    length-append (codes "found") (decimal number ++ replicate letters 120)
    ∙ ap (λ k. 5 + k) (length-append (decimal number) (replicate letters 120) ∙ ap (λ k. length (decimal number) + k) (length-replicate letters 120))

-- all names that are short enough were tried
pub none_is_short : (others : List (List ℕ)) (number : ℕ) (bytes : List ℕ) → IsTried others number bytes → 32 < length bytes → (name : List ℕ) → IsNewName others number name → IsName name → ⊥
none_is_short others number bytes h long name new proper = by (cases_lt new.letters h.letters)
  where
    by : (new.letters < h.letters) ⊎ (h.letters ≤ new.letters) → ⊥
    by (inl less) = h.fewer new.letters less (subst (IsNoneOf others) new.is new.new)
    by (inr more) =
        let ours = ap length h.is ∙ length_found number h.letters in
        let theirs = ap length new.is ∙ length_found number new.letters in
        let short = proper.short in
        absurd (omega arith)

-- ---- names are names

digit_is_byte : (d : ℕ) → d < 10 → is_name_byte (48 + d) ≡ true
digit_is_byte d lt = grind (arith, nat_tests)

both_all : (xs ys : List ℕ) → list_all is_name_byte xs ≡ true → list_all is_name_byte ys ≡ true → list_all is_name_byte (xs ++ ys) ≡ true
both_all xs ys h k = list_all-append is_name_byte xs ys ∙ ap (λ b. b && list_all is_name_byte ys) h ∙ k

one_all : (b : ℕ) → is_name_byte b ≡ true → list_all is_name_byte (b ∷ []) ≡ true
one_all b h = ap (λ t. t && true) h

decimal_bytes : (n : ℕ) → n < 2 ^ 64 → list_all is_name_byte (decimal n) ≡ true
decimal_bytes n lt =
    decimal_by_steps (λ m bs. list_all is_name_byte bs ≡ true)
    (λ m small. one_all (48 + m) (digit_is_byte m small))
    (λ m ds big h. both_all ds ((48 + m % 10) ∷ []) h (one_all (48 + m % 10) (digit_is_byte (m % 10) (omega arith))))
    n lt

letters_bytes : (n : ℕ) → list_all is_name_byte (replicate n 120) ≡ true
letters_bytes zero = refl
letters_bytes (suc n) = letters_bytes n

pub found_is_name : (number letters : ℕ) → number < 2 ^ 64 → length (found_name number letters) ≤ 32 → IsName (found_name number letters)
found_is_name number letters lt short = record {
  first = refl;
  short = short;
  bytes = both_all (codes "found") (decimal number ++ replicate letters 120) refl (both_all (decimal number) (replicate letters 120) (decimal_bytes number lt) (letters_bytes letters));
  other = λ e. let first : 102 ≡ 110 = ap (λ l. get_or l 0 0) e in omega arith;
}

-- the name that was found to be new
pub tried_is_new : (others : List (List ℕ)) (number : ℕ) (bytes : List ℕ) → IsTried others number bytes → IsNoneOf others bytes → IsNewName others number bytes
tried_is_new others number bytes h none = record { letters = h.letters; is = h.is; new = none; least = h.fewer }

pub tried_is_name : (others : List (List ℕ)) (number : ℕ) (bytes : List ℕ) → number < 2 ^ 64 → IsTried others number bytes → length bytes ≤ 32 → IsName bytes
tried_is_name others number bytes lt h short = subst IsName (sym h.is) (found_is_name number h.letters lt (let same = ap length h.is in omega arith))

-- ---- one name

pub one_new_name : (others : List (List ℕ)) (number : ℕ) (a b : List ℕ) → IsNewName others number a → IsNewName others number b → a ≡ b
one_new_name others number a b h k = by (cases_lt h.letters k.letters) (cases_lt k.letters h.letters)
  where
    by : (h.letters < k.letters) ⊎ (k.letters ≤ h.letters) → (k.letters < h.letters) ⊎ (h.letters ≤ k.letters) → a ≡ b
    by (inl less) other = absurd (k.least h.letters less (subst (IsNoneOf others) h.is h.new))
    by (inr more) (inl less) = absurd (h.least k.letters less (subst (IsNoneOf others) k.is k.new))
    by (inr more) (inr least) = let same : h.letters ≡ k.letters = omega arith in h.is ∙ ap (found_name number) same ∙ sym k.is

-- ---- names of different candidates

is_digit : ℕ → Bool
is_digit b = nat_lt b 58

digits_in : List ℕ → List ℕ
digits_in name = filter is_digit (drop 5 name)

digit_stays : (d : ℕ) → d < 10 → filter is_digit ((48 + d) ∷ []) ≡ (48 + d) ∷ []
unfolding is_digit
digit_stays d lt = let test : nat_lt (48 + d) 58 ≡ true = grind (arith, nat_tests) in ap (λ b. cond b ((48 + d) ∷ []) []) test

decimal_stays : (n : ℕ) → n < 2 ^ 64 → filter is_digit (decimal n) ≡ decimal n
decimal_stays n lt =
    decimal_by_steps (λ m bs. filter is_digit bs ≡ bs)
    (λ m small. digit_stays m small)
    (λ m ds big h. filter-append is_digit ds ((48 + m % 10) ∷ []) ∙ (let last = digit_stays (m % 10) (omega arith) in λ i. h i ++ last i))
    n lt

letters_go : (n : ℕ) → filter is_digit (replicate n 120) ≡ []
unfolding is_digit
letters_go zero = refl
letters_go (suc n) = letters_go n

digits_found : (number letters : ℕ) → number < 2 ^ 64 → digits_in (found_name number letters) ≡ decimal number
unfolding digits_in
digits_found number letters lt =
    filter-append is_digit (decimal number) (replicate letters 120)
    ∙ (let front = decimal_stays number lt in let back = letters_go letters in λ i. front i ++ back i)
    ∙ append-nil (decimal number)

-- a name tells its candidate's number
pub name_tells : (m n : ℕ) (a b : ℕ) → m < 2 ^ 64 → n < 2 ^ 64 → found_name m a ≡ found_name n b → m ≡ n
name_tells m n a b small other e = decimal_injective m n small other (sym (digits_found m a small) ∙ ap digits_in e ∙ digits_found n b other)
