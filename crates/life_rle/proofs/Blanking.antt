-- A text with its comment lines made blank, one byte after the other.
use Rattle.std.proofs.Common.{◌≡◌, ◌≢◌, ℕ, ◌&&◌, Bool, true, false, List, [], ◌∷◌, ◌++◌, length, map, refl, sym, ap, ◌∙◌, subst, inl, inr, arith, eqb}
use Rattle.std.specs.List.{AllByRecursion, slice_split, onto_first, join_with_byte}
use Rattle.std.proofs.lemmas.List.{append-nil}
use Rattle.std.proofs.lemmas.List.Splits.{slice_split-cons_yes, slice_split-cons_no}
use Rattle.std.proofs.lemmas.Bool.{ne_eqb, eqb-false, and_right}
use Rattle.std.proofs.lemmas.Bool.Decides.{eqb_tells}
use Rattle.text_lines.specs.Lines.{is_line_feed}
use Rattle.text_lines.specs.Blanks.{is_comment}
use Rattle.life_rle.specs.Comments.{blank_comment, blanked, is_hidden, shown}

-- bytes with their comments made blank, which begin a line or not, and stand in a comment or not
abbrev pub seen : Bool → Bool → List ℕ → List ℕ
seen starts hidden [] = []
seen starts hidden (b ∷ bs) = shown (is_hidden starts hidden b) b ∷ seen (eqb b 10) (is_hidden starts hidden b) bs

seen_length : (starts hidden : Bool) (bs : List ℕ) → length (seen starts hidden bs) ≡ length bs
seen_length starts hidden [] = refl
seen_length starts hidden (b ∷ bs) = let more = seen_length (eqb b 10) (is_hidden starts hidden b) bs in omega arith

-- ---- the whole text

abbrev tail_text : List (List ℕ) → List ℕ
tail_text [] = []
tail_text (part ∷ parts) = 10 ∷ join_with_byte 10 (map blank_comment (part ∷ parts))

join_parts : (part : List ℕ) (parts : List (List ℕ)) → join_with_byte 10 (map blank_comment (part ∷ parts)) ≡ blank_comment part ++ tail_text parts
join_parts part [] = sym (append-nil (blank_comment part))
join_parts part (next ∷ parts) = refl

abbrev spaces : List ℕ → List ℕ
spaces bs = map (λ b. 32) bs

record IsShown (bs : List ℕ) : Type 0 where
  part : List ℕ
  more : List (List ℕ)
  parts_are : slice_split is_line_feed bs ≡ part ∷ more
  mid : seen false false bs ≡ part ++ tail_text more
  hid : (starts : Bool) → seen starts true bs ≡ spaces part ++ tail_text more
  begun : seen true false bs ≡ blank_comment part ++ tail_text more

feed : (bs : List ℕ) (rest : IsShown bs) → 10 ∷ seen true false bs ≡ tail_text (rest.part ∷ rest.more)
feed bs rest = ap (λ (t : List ℕ). 10 ∷ t) (rest.begun ∙ sym (join_parts rest.part rest.more))

shown_feed : (bs : List ℕ) → IsShown bs → IsShown (10 ∷ bs)
shown_feed bs rest = record {
  part = [];
  more = rest.part ∷ rest.more;
  parts_are = slice_split-cons_yes is_line_feed 10 bs refl ∙ ap (λ (ps : List (List ℕ)). [] ∷ ps) rest.parts_are;
  mid = feed bs rest;
  hid = λ starts. feed bs rest;
  begun = feed bs rest;
}

other_comment : (b : ℕ) (bs : List ℕ) → eqb b 35 ≡ false → is_comment (b ∷ bs) ≡ false
other_comment b bs e = ap (λ v. v && true) (ne_eqb 35 b (λ same. eqb-false b 35 e (sym same)))

begun_byte : (b : ℕ) (bs : List ℕ) (rest : IsShown bs) → eqb b 10 ≡ false → seen true false (b ∷ bs) ≡ blank_comment (b ∷ rest.part) ++ tail_text rest.more
begun_byte b bs rest e =
    elim (eqb_tells b 35) [
      | inl hash ↦
          let P : ℕ → Type 0 = λ c. seen true false (c ∷ bs) ≡ blank_comment (c ∷ rest.part) ++ tail_text rest.more in
          let whole : P 35 = ap (λ (t : List ℕ). 32 ∷ t) (rest.hid false) in
          subst P (sym hash.1) whole
      | inr other ↦ rw (e, other.0, other_comment b rest.part other.0) (ap (λ (t : List ℕ). b ∷ t) rest.mid)
    ]

shown_byte : (b : ℕ) (bs : List ℕ) → IsShown bs → eqb b 10 ≡ false → IsShown (b ∷ bs)
shown_byte b bs rest e = record {
  part = b ∷ rest.part;
  more = rest.more;
  parts_are = slice_split-cons_no is_line_feed b bs e ∙ ap (onto_first b) rest.parts_are;
  mid = rw e (ap (λ (t : List ℕ). b ∷ t) rest.mid);
  hid = λ starts. rw e (ap (λ (t : List ℕ). 32 ∷ t) (rest.hid false));
  begun = begun_byte b bs rest e;
}

all_shown : (bs : List ℕ) → IsShown bs
all_shown [] = record { part = []; more = []; parts_are = refl; mid = refl; hid = λ starts. refl; begun = refl }
all_shown (b ∷ bs) = elim (eqb_tells b 10) [
  | inl here ↦ subst (λ (c : ℕ). IsShown (c ∷ bs)) (sym here.1) (shown_feed bs (all_shown bs))
  | inr other ↦ shown_byte b bs (all_shown bs) other.0
]

pub blanked_is : (text : List ℕ) → blanked text ≡ seen true false text
blanked_is text =
    let s = all_shown text in
    ap (λ (ps : List (List ℕ)). join_with_byte 10 (map blank_comment ps)) s.parts_are ∙ join_parts s.part s.more ∙ sym s.begun

pub blanked_length : (text : List ℕ) → length (blanked text) ≡ length text
blanked_length text = ap length (blanked_is text) ∙ seen_length true false text

-- ---- a text without comments

abbrev pub HasNoHash : List ℕ → Type 0
HasNoHash bs = AllByRecursion (λ b. b ≢ 35) bs

hidden_none : (starts : Bool) (b : ℕ) → b ≢ 35 → is_hidden starts false b ≡ false
hidden_none starts b n = and_right _ _ (and_right starts (eqb b 35) (ne_eqb b 35 n))

seen_same : (starts : Bool) (bs : List ℕ) → HasNoHash bs → seen starts false bs ≡ bs
seen_same starts [] h = refl
seen_same starts (b ∷ bs) h = rw (hidden_none starts b h.0) (ap (λ (t : List ℕ). b ∷ t) (seen_same (eqb b 10) bs h.1))

-- where no line begins with `#`, nothing is made blank
pub blanked_same : (text : List ℕ) → HasNoHash text → blanked text ≡ text
blanked_same text h = blanked_is text ∙ seen_same true text h
