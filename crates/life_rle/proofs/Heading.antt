-- The lines before the items, as they are read.
use Rattle.std.specs.Prelude.{◌≡◌, ℕ, ◌<◌, ◌≤◌, ◌^◌, Bool, true, false, not, ◌==◌, ℤ, pos, negsuc, neg_ℤ, ◌≤ℤ◌, List, [], ◌∷◌, ◌++◌, length, codes, filter}
use Rattle.std.specs.List.{list_all, All}
use Rattle.std.specs.Fmt.{decimal, signed_decimal}
use Rattle.std.specs.Char.{is_ascii_digit}
use Rattle.std.proofs.Common.{refl, sym, ap, ◌∙◌, arith, suc, subst, inl, inr, get_or}
use Rattle.std.proofs.lemmas.Int.{ints}
use Rattle.std.proofs.lemmas.List.{append_assoc}
use Rattle.std.proofs.lemmas.List.Splits.{slice_split_none}
use Rattle.std.proofs.lemmas.List.Sums.{AllPass-from_list_all}
use Rattle.std.proofs.lemmas.Bool.{ne_eqb, and_from, not-true}
use Rattle.life_cells.specs.declared.cell.Cell.{Cell}
use Rattle.rle_items.specs.Numbers.{IsWhole}
use Rattle.text_lines.specs.Blanks.{is_blank_byte, IsBlank, words}
use Rattle.life_rle.specs.Header.{IsPastValue, GivesRule, NamesLife, IsHeader}
use Rattle.life_rle.specs.Text.{IsPlaceIn}
use Rattle.life_rle.specs.Written.{place_line, header_line}
use Rattle.life_rle.specs.ByteLaws.{all_append, decimal_natural, decimal_digits, decimal_value, decimal_passes, small_fits, is_inner, inner_digit, is_word_byte, word_digit}

-- ---- whole numbers

-- near enough to be written in 64 bits
pub record IsNear (z : ℤ) : Type 0 where
  pub low : neg_ℤ (pos (2 ^ 58)) ≤ℤ z
  pub high : z ≤ℤ pos (2 ^ 58)

signed_whole : (z : ℤ) → IsNear z → IsWhole (signed_decimal z) z
signed_whole (pos n) h =
    let small : n < 2 ^ 64 = omega (arith, ints, h.high) in
    inl (decimal_digits n small, ap pos (sym (decimal_value n small)))
signed_whole (negsuc n) h =
    let small : suc n < 2 ^ 64 = omega (arith, ints, h.low) in
    inr (decimal (suc n), (refl, (decimal_digits (suc n) small, ap (λ k. neg_ℤ (pos k)) (sym (decimal_value (suc n) small)))))

signed_passes : (p : ℕ → Bool) → ((b : ℕ) → 48 ≤ b → b ≤ 57 → p b ≡ true) → p 45 ≡ true → (z : ℤ) → IsNear z → list_all p (signed_decimal z) ≡ true
signed_passes p f minus (pos n) h = decimal_passes p f n (omega (arith, ints, h.high))
signed_passes p f minus (negsuc n) h = and_from _ _ minus (decimal_passes p f (suc n) (omega (arith, ints, h.low)))

-- ---- the line of the place

abbrev pub place_word : Cell → List ℕ
place_word place = (codes "Pos=" ++ signed_decimal place.x) ++ (44 ∷ signed_decimal place.y)

abbrev pub place_text : Cell → List ℕ
place_text place = codes "#CXRLE " ++ place_word place

place_word_passes : (p : ℕ → Bool) → ((b : ℕ) → 48 ≤ b → b ≤ 57 → p b ≡ true) → p 45 ≡ true → p 44 ≡ true → list_all p (codes "Pos=") ≡ true → (place : Cell) → IsNear place.x → IsNear place.y → list_all p (place_word place) ≡ true
place_word_passes p f minus comma front place x y =
    all_append p (codes "Pos=" ++ signed_decimal place.x) (44 ∷ signed_decimal place.y) (all_append p (codes "Pos=") (signed_decimal place.x) front (signed_passes p f minus place.x x)) (and_from _ _ comma (signed_passes p f minus place.y y))

pub place_line_is : (place : Cell) → place_line place ≡ place_text place ++ (10 ∷ [])
place_line_is place = refl

pub place_text_inner : (place : Cell) → IsNear place.x → IsNear place.y → list_all is_inner (place_text place) ≡ true
place_text_inner place x y = place_word_passes is_inner inner_digit refl refl refl place x y

no_blank : (word : List ℕ) → list_all is_word_byte word ≡ true → All (λ b. is_blank_byte b ≡ false) word
no_blank word h = λ k d l. not-true _ (AllPass-from_list_all (λ b. not (is_blank_byte b)) word h k d l)

both_kept : (a w : List ℕ) → 0 < length a → 0 < length w → filter (λ (v : List ℕ). not (length v == 0)) (a ∷ w ∷ []) ≡ a ∷ w ∷ []
both_kept a w h k = rw (ne_eqb (length a) 0 (λ e. omega arith), ne_eqb (length w) 0 (λ e. omega arith)) refl

pub place_words : (place : Cell) → IsNear place.x → IsNear place.y → words (place_text place) ≡ codes "#CXRLE" ∷ place_word place ∷ []
place_words place x y =
    let whole = slice_split_none is_blank_byte (place_word place) (no_blank (place_word place) (place_word_passes is_word_byte word_digit refl refl refl place x y)) in
    ap (λ (ws : List (List ℕ)). filter (λ (v : List ℕ). not (length v == 0)) (codes "#CXRLE" ∷ ws)) whole ∙ both_kept (codes "#CXRLE") (place_word place) (omega arith) (omega arith)

pub place_is_read : (place : Cell) → IsNear place.x → IsNear place.y → IsPlaceIn (words (place_text place)) place
place_is_read place x y = subst (λ ws. IsPlaceIn ws place) (sym (place_words place x y)) (inr (
  (λ other w. absurd (omega (arith, ap (λ (l : List ℕ). get_or l 0 0) w.whole))),
  inl (record { x = signed_decimal place.x; y = signed_decimal place.y; whole = refl; x_is = signed_whole place.x x; y_is = signed_whole place.y y }),
))

-- ---- the header line

abbrev pub header_text : ℕ → ℕ → List ℕ
header_text width height = ((codes "x = " ++ decimal width) ++ (codes ", y = " ++ decimal height)) ++ codes ", rule = B3/S23"

pub header_line_is : (width height : ℕ) → header_line width height ≡ header_text width height ++ (10 ∷ [])
header_line_is width height = simp append_assoc

pub header_text_inner : (width height : ℕ) → width < 10 ^ 18 → height < 10 ^ 18 → list_all is_inner (header_text width height) ≡ true
header_text_inner width height w h =
    let number : (n : ℕ) → n < 10 ^ 18 → list_all is_inner (decimal n) ≡ true = λ n k. decimal_passes is_inner inner_digit n (small_fits n k) in
    all_append is_inner ((codes "x = " ++ decimal width) ++ (codes ", y = " ++ decimal height)) (codes ", rule = B3/S23")
    (all_append is_inner (codes "x = " ++ decimal width) (codes ", y = " ++ decimal height) (number width w) (number height h)) refl

blank_one : IsBlank (32 ∷ [])
blank_one = (refl, tt)

no_digit_first : (b : ℕ) (more : List ℕ) → is_ascii_digit b ≡ false → (c : ℕ) (cs : List ℕ) → b ∷ more ≡ c ∷ cs → is_ascii_digit c ≡ false
no_digit_first b more other c cs e = let same : b ≡ c = cc in subst (λ (x : ℕ). is_ascii_digit x ≡ false) same other

-- ` = n` before a byte that is no digit
value_is_read : (n : ℕ) (b : ℕ) (more : List ℕ) → n < 10 ^ 18 → is_ascii_digit b ≡ false → IsPastValue (codes " = " ++ (decimal n ++ (b ∷ more))) (b ∷ more)
value_is_read n b more h other = record {
  at_number = 32 ∷ (decimal n ++ (b ∷ more));
  sign = record { gap = 32 ∷ []; whole = refl; blank = blank_one };
  number = record { gap = 32 ∷ []; digits = decimal n; number = n; whole = refl; blank = blank_one; is = decimal_natural n h; ended = no_digit_first b more other };
}

rule_is_read : GivesRule (codes ", rule = B3/S23") (codes " B3/S23")
rule_is_read = record {
  behind_comma = codes " rule = B3/S23";
  behind_rule = codes " = B3/S23";
  comma = record { gap = []; whole = refl; blank = tt };
  rule = record { gap = 32 ∷ []; whole = refl; blank = blank_one };
  sign = record { gap = 32 ∷ []; whole = refl; blank = blank_one };
}

life_is_named : NamesLife (codes " B3/S23")
life_is_named = record { gap_1 = 32 ∷ []; name = codes "B3/S23"; gap_2 = []; whole = refl; blank_1 = blank_one; blank_2 = tt; life = inl refl }

pub header_is_read : (width height : ℕ) → width < 10 ^ 18 → height < 10 ^ 18 → IsHeader (header_text width height)
header_is_read width height w h =
    let last : List ℕ = codes ", rule = B3/S23" in
    let at_height : List ℕ = codes " = " ++ (decimal height ++ last) in
    record {
      rest = codes ", rule = B3/S23";
      size = record {
        behind_x = codes " = " ++ (decimal width ++ (codes ", y" ++ at_height));
        behind_width = codes ", y" ++ at_height;
        behind_comma = codes " y" ++ at_height;
        behind_y = at_height;
        x = simp append_assoc;
        width = value_is_read width 44 (codes " y" ++ at_height) w refl;
        comma = record { gap = []; whole = refl; blank = tt };
        y = record { gap = 32 ∷ []; whole = refl; blank = blank_one };
        height = value_is_read height 44 (codes " rule = B3/S23") h refl;
      };
      rule = inr (codes " B3/S23", (rule_is_read, life_is_named));
    }
