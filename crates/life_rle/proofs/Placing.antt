-- The place that a line gives.
use Rattle.std.proofs.Common.{◌≡◌, ◌≢◌, ℕ, ◌+◌, ◌-◌, ◌*◌, ◌<◌, ◌≤◌, ◌^◌, ◌⊎◌, Bool, true, false, not, List, [], ◌∷◌, ◌++◌, length, get_or, take, drop, refl, sym, ap, ◌∙◌, subst, inl, inr, arith, Some, None, codes, ℤ, pos, neg_ℤ, filter, if◌then◌else◌, ◌==◌}
use Rattle.std.specs.List.{AllByRecursion, position, slice_split, All}
use Rattle.std.specs.Str.{all_ascii_digits}
use Rattle.std.proofs.lemmas.Int.{ints}
use Rattle.std.proofs.lemmas.List.{append_assoc, append-nil, length-append, append_cancel_left}
use Rattle.std.proofs.lemmas.List.Splits.{slice_split_at, slice_split_none}
use Rattle.std.proofs.lemmas.List.Elements.{All-from_recursion}
use Rattle.std.proofs.lemmas.Bool.{eqb-true, eq-eqb, ne_eqb, cases_lt}
use Rattle.life_cells.specs.Cells.{cell}
use Rattle.life_cells.specs.declared.cell.Cell.{Cell}
use Rattle.rle_items.specs.Numbers.{value, IsDigits, IsWhole}
use Rattle.text_lines.specs.Blanks.{is_blank_byte, words}
use Rattle.life_rle.specs.Text.{IsPlaceWord, IsPlaceIn}
use Rattle.rle_items.specs.Reach.{IsNearZero}
use Rattle.life_rle.specs.Told.{is_comma, IsCommaSplit, TellsSize, TellsNumber, TellsPlace, IsWordSplit, IsOneWord}
use Rattle.rle_items.specs.Gaps.{IsAtCount}
use Rattle.rle_items.specs.SpellingLaws.{one_count}
use Rattle.rle_items.specs.NumberLaws.{value_more}
use Rattle.rle_items.specs.FirstLaws.{cut_at, none_passes}
use Rattle.life_rle.proofs.OneMeaning.{one_comma, no_comma_within, no_minus}

-- ---- numbers

pub size_none : (digits : List ℕ) → TellsSize (value (take 0 digits)) 0
size_none digits = record { exact = λ h. refl; beyond = λ h. absurd (omega arith) }

pub size_more : (ds : List ℕ) (i size next : ℕ) → all_ascii_digits ds ≡ true → i < length ds → TellsSize (value (take i ds)) size
    → (size ≤ 2 ^ 40 → next ≡ size * 10 + (get_or ds i 0 - 48)) → (2 ^ 40 < size → next ≡ size) → TellsSize (value (take (i + 1) ds)) next
size_more ds i size next digits l t near far =
    let more = value_more ds i digits l in
    elim (cases_lt (2 ^ 40) size) [
      | inl big ↦ (let same = far big in let beyond = t.beyond big in record { exact = λ h. absurd (omega arith); beyond = λ h. omega arith })
      | inr small ↦ (let same = near small in let exact = t.exact small in record { exact = λ h. omega arith; beyond = λ h. omega arith })
    ]

near_size : (n : ℕ) → IsNearZero (pos n) → n ≤ 2 ^ 40
near_size n h = omega (arith, ints, h.high)

near_minus : (n : ℕ) → IsNearZero (neg_ℤ (pos n)) → n ≤ 2 ^ 40
near_minus n h = omega (arith, ints, h.low)

small_told : (n m : ℕ) → TellsSize n m → n ≤ 2 ^ 40 → m ≤ 2 ^ 40
small_told n m t small = elim (cases_lt (2 ^ 40) m) [ inl big ↦ (let beyond = t.beyond big in absurd (omega arith)) | inr h ↦ h ]

pub tells_plain : (n m : ℕ) → TellsSize n m → TellsNumber (pos n) (pos m)
tells_plain n m t = record {
  exact = λ h. ap pos (t.exact (near_size m h));
  near = λ h. let small = small_told n m t (near_size n h) in let same : m ≡ n = t.exact small in subst (λ (k : ℕ). IsNearZero (pos k)) (sym same) h;
}

pub tells_minus : (n m : ℕ) → TellsSize n m → TellsNumber (neg_ℤ (pos n)) (neg_ℤ (pos m))
tells_minus n m t = record {
  exact = λ h. ap (λ (k : ℕ). neg_ℤ (pos k)) (t.exact (near_minus m h));
  near = λ h. let small = small_told n m t (near_minus n h) in let same : m ≡ n = t.exact small in subst (λ (k : ℕ). IsNearZero (neg_ℤ (pos k))) (sym same) h;
}

-- bytes that are all digits
pub all_digits_spell : (bytes digits rest : List ℕ) → IsAtCount bytes digits rest → 0 < length digits → length rest ≡ 0 → IsDigits bytes × (value bytes ≡ value digits)
all_digits_spell bytes digits [] h some none =
    let same : bytes ≡ digits = h.split ∙ append-nil digits in
    (subst IsDigits (sym same) (record { some = some; digits = h.digits_are }), ap value same)
all_digits_spell bytes digits (b ∷ rest) h some none = absurd (omega arith)

pub no_digits_spell : (bytes digits rest : List ℕ) → IsAtCount bytes digits rest → (length digits ≡ 0) ⊎ (0 < length rest) → ¬ IsDigits bytes
no_digits_spell bytes digits rest h bad d =
    let same = one_count bytes digits rest bytes [] h (record { split = sym (append-nil bytes); digits_are = d.digits; ended = λ b bs e. absurd cc }) in
    let some = d.some in
    elim bad [
      | inl none ↦ omega (arith, ap length same.0)
      | inr more ↦ omega (arith, ap length same.1)
    ]

pub told_minus : (bytes digits : List ℕ) (size : ℕ) → bytes ≡ codes "-" ++ digits → IsDigits digits → TellsSize (value digits) size → (z : ℤ) × (IsWhole bytes z × TellsNumber z (neg_ℤ (pos size)))
told_minus bytes digits size e d t = (neg_ℤ (pos (value digits)), (inr (digits, (e, (d, refl))), tells_minus (value digits) size t))

pub told_plain : (bytes : List ℕ) (size : ℕ) → IsDigits bytes → TellsSize (value bytes) size → (z : ℤ) × (IsWhole bytes z × TellsNumber z (pos size))
told_plain bytes size d t = (pos (value bytes), (inl (d, refl), tells_plain (value bytes) size t))

pub no_minus_told : (bytes digits : List ℕ) → bytes ≡ codes "-" ++ digits → ¬ IsDigits digits → (z : ℤ) → IsWhole bytes z → ⊥
no_minus_told bytes digits e n z (inl h) = no_minus digits (subst (λ (bs : List ℕ). all_ascii_digits bs ≡ true) e h.0.digits)
no_minus_told bytes digits e n z (inr h) = let whole = h.1.0 in let same : h.0 ≡ digits = cc in n (subst IsDigits same h.1.1.0)

pub no_plain_told : (bytes : List ℕ) → ((rest : List ℕ) → bytes ≡ codes "-" ++ rest → ⊥) → ¬ IsDigits bytes → (z : ℤ) → IsWhole bytes z → ⊥
no_plain_told bytes n d z (inl h) = d h.0
no_plain_told bytes n d z (inr h) = n h.0 h.1.0

-- ---- a word

not_comma : (bs : List ℕ) → AllByRecursion (λ b. is_comma b ≡ false) bs → AllByRecursion (λ b. b ≢ 44) bs
not_comma [] h = tt
not_comma (b ∷ bs) h = ((λ e. let yes : is_comma b ≡ true = eq-eqb b 44 e in let n = h.0 in cc), not_comma bs h.1)

pub comma_at : (bytes : List ℕ) (n : ℕ) → position is_comma bytes ≡ Some n → IsCommaSplit bytes (take n bytes) (drop (n + 1) bytes)
comma_at bytes n e =
    let cut = cut_at is_comma bytes n e in
    record {
      whole = cut.whole ∙ ap (λ (b : ℕ). take n bytes ++ (b ∷ drop (n + 1) bytes)) (eqb-true _ 44 cut.passes);
      first = not_comma (take n bytes) cut.others;
    }

no_comma_in : (x y : List ℕ) → AllByRecursion (λ b. b ≢ 44) (x ++ (44 ∷ y)) → ⊥
no_comma_in [] y h = h.0 refl
no_comma_in (b ∷ x) y h = no_comma_in x y h.1

pub no_comma_at : (bytes : List ℕ) → position is_comma bytes ≡ None → (x y : List ℕ) → IsCommaSplit bytes x y → ⊥
no_comma_at bytes e x y s = no_comma_in x y (subst (λ (bs : List ℕ). AllByRecursion (λ b. b ≢ 44) bs) s.whole (not_comma bytes (none_passes is_comma bytes e)))

-- the numbers of a word for a place
pub numbers_of : (word numbers : List ℕ) (place : Cell) → word ≡ codes "Pos=" ++ numbers → (h : IsPlaceWord word place) → IsCommaSplit numbers h.x h.y
numbers_of word numbers place e h = record {
  whole = append_cancel_left (codes "Pos=") _ _ (sym e ∙ h.whole ∙ append_assoc (codes "Pos=") h.x (44 ∷ h.y));
  first = no_comma_within h.x place.x h.x_is;
}

same_comma : (numbers x y u v : List ℕ) → IsCommaSplit numbers x y → IsCommaSplit numbers u v → (u ≡ x) × (v ≡ y)
same_comma numbers x y u v p q = one_comma u v x y q.first p.first (sym q.whole ∙ p.whole)

module _ (word numbers x y : List ℕ) (e : word ≡ codes "Pos=" ++ numbers) (s : IsCommaSplit numbers x y) where
  pub no_x : ((z : ℤ) → IsWhole x z → ⊥) → (place : Cell) → IsPlaceWord word place → ⊥
  no_x n place h = n place.x (subst (λ (bs : List ℕ). IsWhole bs place.x) (same_comma numbers x y h.x h.y s (numbers_of word numbers place e h)).0 h.x_is)

  pub no_y : ((z : ℤ) → IsWhole y z → ⊥) → (place : Cell) → IsPlaceWord word place → ⊥
  no_y n place h = n place.y (subst (λ (bs : List ℕ). IsWhole bs place.y) (same_comma numbers x y h.x h.y s (numbers_of word numbers place e h)).1 h.y_is)

  pub place_word_told : (c : Cell) → (z : ℤ) × (IsWhole x z × TellsNumber z c.x) → (z : ℤ) × (IsWhole y z × TellsNumber z c.y) → (place : Cell) × (IsPlaceWord word place × TellsPlace place c)
  place_word_told c p q = (
    cell p.0 q.0,
    (
      record { x = x; y = y; whole = e ∙ ap (λ (bs : List ℕ). codes "Pos=" ++ bs) s.whole ∙ sym (append_assoc (codes "Pos=") x (44 ∷ y)); x_is = p.1.0; y_is = q.1.0 },
      record {
        exact = λ h. λ k. record { y = q.1.1.exact h.y k; x = p.1.1.exact h.x k };
        near = λ h. record { x = p.1.1.near h.x; y = q.1.1.near h.y };
      },
    ),
  )

pub no_numbers : (word : List ℕ) → ((rest : List ℕ) → word ≡ codes "Pos=" ++ rest → ⊥) → (place : Cell) → IsPlaceWord word place → ⊥
no_numbers word n place h = n (h.x ++ (44 ∷ h.y)) (h.whole ∙ append_assoc (codes "Pos=") h.x (44 ∷ h.y))

pub no_split : (word numbers : List ℕ) → word ≡ codes "Pos=" ++ numbers → ((x y : List ℕ) → IsCommaSplit numbers x y → ⊥) → (place : Cell) → IsPlaceWord word place → ⊥
no_split word numbers e n place h = n h.x h.y (numbers_of word numbers place e h)

-- what follows a place, as a slice has it
-- ---- the words of a line

abbrev some_words : List (List ℕ) → List (List ℕ)
some_words parts = filter (λ (w : List ℕ). not (length w == 0)) parts

word_is_some : (word : List ℕ) (place : Cell) → IsPlaceWord word place → 0 < length word
word_is_some word place h = omega (arith, length-append (codes "Pos=" ++ h.x) (44 ∷ h.y), ap length h.whole)

found_in : (word : List ℕ) (parts : List (List ℕ)) (place : Cell) → IsPlaceWord word place → IsPlaceIn (some_words (word ∷ parts)) place
found_in word parts place h =
    let some = word_is_some word place h in
    let kept : some_words (word ∷ parts) ≡ word ∷ some_words parts = rw (ne_eqb (length word) 0 (λ e. omega arith)) refl in
    subst (λ (ws : List (List ℕ)). IsPlaceIn ws place) (sym kept) (inl h)

not_found_in : (word : List ℕ) (parts : List (List ℕ)) (place : Cell) → ((other : Cell) → IsPlaceWord word other → ⊥) → IsPlaceIn (some_words parts) place → IsPlaceIn (some_words (word ∷ parts)) place
not_found_in word parts place n h =
    elim (not (length word == 0)) as (λ (b : Bool). IsPlaceIn (if b then word ∷ some_words parts else some_words parts) place) [ true ↦ inr (n, h) | false ↦ h ]

none_blank : (line : List ℕ) → AllByRecursion (λ b. is_blank_byte b ≡ false) line → All (λ b. is_blank_byte b ≡ false) line
none_blank line h = All-from_recursion (λ b. is_blank_byte b ≡ false) line h

words_split : (line word more : List ℕ) → IsWordSplit line word more → words line ≡ some_words (word ∷ slice_split is_blank_byte more)
words_split line word more h = ap some_words (ap (slice_split is_blank_byte) h.whole ∙ slice_split_at is_blank_byte word h.blank more (none_blank word h.others) h.is_blank)

words_last : (line : List ℕ) → IsOneWord line → words line ≡ some_words (line ∷ [])
words_last line h = ap some_words (slice_split_none is_blank_byte line (none_blank line h))

abbrev pub IsPlaceOf : List ℕ → Cell → Type 0
IsPlaceOf line place = IsPlaceIn (words line) place

pub first_word : (line word more : List ℕ) (place : Cell) → IsWordSplit line word more → IsPlaceWord word place → IsPlaceOf line place
first_word line word more place e h = subst (λ (ws : List (List ℕ)). IsPlaceIn ws place) (sym (words_split line word more e)) (found_in word (slice_split is_blank_byte more) place h)

pub later_word : (line word more : List ℕ) (place : Cell) → IsWordSplit line word more → ((other : Cell) → IsPlaceWord word other → ⊥) → IsPlaceOf more place → IsPlaceOf line place
later_word line word more place e m h = subst (λ (ws : List (List ℕ)). IsPlaceIn ws place) (sym (words_split line word more e)) (not_found_in word (slice_split is_blank_byte more) place m h)

pub last_word : (line : List ℕ) (place : Cell) → IsOneWord line → IsPlaceWord line place → IsPlaceOf line place
last_word line place e h = subst (λ (ws : List (List ℕ)). IsPlaceIn ws place) (sym (words_last line e)) (found_in line [] place h)

pub no_word : (line : List ℕ) → IsOneWord line → ((other : Cell) → IsPlaceWord line other → ⊥) → IsPlaceOf line (cell (pos 0) (pos 0))
no_word line e n = subst (λ (ws : List (List ℕ)). IsPlaceIn ws (cell (pos 0) (pos 0))) (sym (words_last line e)) (not_found_in line [] (cell (pos 0) (pos 0)) n refl)

pub split_shorter : (line word more : List ℕ) → IsWordSplit line word more → length more < length line
split_shorter line word more h = omega (arith, length-append word (h.blank ∷ more), ap length h.whole)

pub word_at : (line : List ℕ) (n : ℕ) → position is_blank_byte line ≡ Some n → IsWordSplit line (take n line) (drop (n + 1) line)
word_at line n e = let cut = cut_at is_blank_byte line n e in record { blank = get_or line n 0; whole = cut.whole; is_blank = cut.passes; others = cut.others }

pub tells_itself : (place : Cell) → TellsPlace place place
tells_itself place = record { exact = λ h. refl; near = λ h. h }
