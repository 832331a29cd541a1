-- The parts of a header, one after the other: each stands at one place.
use Rattle.std.proofs.Common.{◌≡◌, ◌≢◌, ℕ, ◌<◌, ◌≤◌, ◌⊎◌, true, false, List, [], ◌∷◌, ◌++◌, length, map, codes, refl, sym, ap, ◌∙◌, subst, inl, inr, arith, Option, Some, None, MatchOption, IfSome, IfNone}
use Rattle.std.specs.Char.{is_ascii_digit, to_ascii_lowercase}
use Rattle.std.proofs.lemmas.List.{append_cancel_left}
use Rattle.std.proofs.lemmas.Bool.{and_parts, cases_Bool, or_cases, eqb-true, ne_eqb}
use Rattle.rle_items.specs.Numbers.{IsDigits, value}
use Rattle.rle_items.specs.Gaps.{IsAtCount}
use Rattle.rle_items.specs.SpellingLaws.{one_count, digit_range}
use Rattle.text_lines.specs.Blanks.{is_blank_byte, IsBlank, IsPassedOver}
use Rattle.life_rle.specs.Header.{IsPast, IsPastNumber, IsPastValue, BeginsWithSize, GivesRule, IsRuleName, NamesLife, HasHeaderForm, IsHeader}
use Rattle.life_rle.specs.HeaderRead.{IsPastBlanks, BeginsInked, IsWordOf}
use Rattle.rle_items.specs.FirstLaws.{IsRun, one_run}

pub if_some : {X : Type 0} (P : Type 0) (Q : X → Type 0) (r : Option X) → MatchOption r P Q → IfSome r Q
if_some P Q None h = tt
if_some P Q (Some x) h = h

pub if_none : {X : Type 0} (P : Type 0) (Q : X → Type 0) (r : Option X) → MatchOption r P Q → IfNone r P
if_none P Q None h = h
if_none P Q (Some x) h = tt

pub none_by : {X : Type 0} (P Q : Type 0) (r : Option X) → (P → Q) → IfNone r P → IfNone r Q
none_by P Q None f h = f h
none_by P Q (Some x) f h = tt

-- ---- blanks

pub past_blanks : (line gap more : List ℕ) → IsRun is_blank_byte line gap more → IsPastBlanks line more
past_blanks line gap more h = record { gap = gap; split = h.split; blank = h.each; ended = h.ended }

-- bytes that begin with no blank
abbrev pub EndsBlanks : List ℕ → Type 0
EndsBlanks more = (b : ℕ) (bs : List ℕ) → more ≡ b ∷ bs → is_blank_byte b ≡ false

-- blanks end at one place
same_blanks : (gap other m n : List ℕ) → IsBlank gap → IsBlank other → EndsBlanks m → EndsBlanks n → gap ++ m ≡ other ++ n → m ≡ n
same_blanks gap other m n p q f g e = (one_run is_blank_byte gap other m n p q f g e).1

inked_ends : (part rest : List ℕ) → BeginsInked part → EndsBlanks (part ++ rest)
inked_ends [] rest h = absurd h
inked_ends (p ∷ ps) rest h = λ b bs e. let same : p ≡ b = cc in subst (λ (x : ℕ). is_blank_byte x ≡ false) same h

-- ---- one part

pub one_past : (part line r s : List ℕ) → BeginsInked part → IsPast part line r → IsPast part line s → r ≡ s
one_past part line r s h p q =
    append_cancel_left part r s (same_blanks p.gap q.gap (part ++ r) (part ++ s) p.blank q.blank (inked_ends part r h) (inked_ends part s h) (sym p.whole ∙ q.whole))

pub past_part : (part line more rest : List ℕ) → IsPastBlanks line more → more ≡ part ++ rest → IsPast part line rest
past_part part line more rest b e = record { gap = b.gap; whole = b.split ∙ ap (λ (bs : List ℕ). b.gap ++ bs) e; blank = b.blank }

-- where a part stands, it stands behind the blanks
pub part_behind : (part line more rest : List ℕ) → BeginsInked part → IsPastBlanks line more → IsPast part line rest → more ≡ part ++ rest
part_behind part line more rest h b p = same_blanks b.gap p.gap more (part ++ rest) b.blank p.blank b.ended (inked_ends part rest h) (sym b.split ∙ p.whole)

-- ---- a number

digit_inked : (b : ℕ) → is_ascii_digit b ≡ true → is_blank_byte b ≡ false
digit_inked b h = let range = digit_range b h in rw (ne_eqb b 32 (λ e. omega arith), ne_eqb b 9 (λ e. omega arith)) refl

number_ends : (digits rest : List ℕ) → IsDigits digits → EndsBlanks (digits ++ rest)
number_ends [] rest h = absurd (let some = h.some in omega arith)
number_ends (d ∷ ds) rest h = λ b bs e. let same : d ≡ b = cc in subst (λ (x : ℕ). is_blank_byte x ≡ false) same (digit_inked d (and_parts _ _ h.digits).0)

count_of_number : (line rest more : List ℕ) (p : IsPastNumber line rest) → more ≡ p.digits ++ rest → IsAtCount more p.digits rest
count_of_number line rest more p e = record { split = e; digits_are = p.is.digits.digits; ended = p.ended }

-- where a number stands, it stands behind the blanks
pub number_behind : (line more rest : List ℕ) → IsPastBlanks line more → (p : IsPastNumber line rest) → IsAtCount more p.digits rest
number_behind line more rest b p =
    count_of_number line rest more p (same_blanks b.gap p.gap more (p.digits ++ rest) b.blank p.blank b.ended (number_ends p.digits rest p.is.digits) (sym b.split ∙ p.whole))

pub one_past_number : (line r s : List ℕ) → IsPastNumber line r → IsPastNumber line s → r ≡ s
one_past_number line r s p q =
    let same : p.digits ++ r ≡ q.digits ++ s = same_blanks p.gap q.gap (p.digits ++ r) (q.digits ++ s) p.blank q.blank (number_ends p.digits r p.is.digits) (number_ends q.digits s q.is.digits) (sym p.whole ∙ q.whole) in
    (one_count (p.digits ++ r) p.digits r q.digits s (count_of_number line r (p.digits ++ r) p refl) (count_of_number line s (p.digits ++ r) q same)).1

pub past_number : (line more digits rest : List ℕ) → IsPastBlanks line more → IsAtCount more digits rest → 0 < length digits → length digits ≤ 18 → IsPastNumber line rest
past_number line more digits rest b c some short = record {
  gap = b.gap;
  digits = digits;
  number = value digits;
  whole = b.split ∙ ap (λ (bs : List ℕ). b.gap ++ bs) c.split;
  blank = b.blank;
  is = record { digits = record { some = some; digits = c.digits_are }; short = short; is = refl };
  ended = c.ended;
}

-- digits that are none, or too many, are no number
pub no_number : (line more digits rest : List ℕ) → IsPastBlanks line more → IsAtCount more digits rest → (length digits ≡ 0) ⊎ (18 < length digits) → (last : List ℕ) → IsPastNumber line last → ⊥
no_number line more digits rest b c bad last p =
    let same = (one_count more digits rest p.digits last c (number_behind line more last b p)).0 in
    let size : length digits ≡ length p.digits = ap length same in
    elim bad [
      | inl h ↦ (let some = p.is.digits.some in omega arith)
      | inr h ↦ (let short = p.is.short in omega arith)
    ]

-- ---- `=` and a number

pub one_value : (line r s : List ℕ) → IsPastValue line r → IsPastValue line s → r ≡ s
one_value line r s p q =
    let at : p.at_number ≡ q.at_number = one_past (codes "=") line p.at_number q.at_number refl p.sign q.sign in
    one_past_number q.at_number r s (subst (λ (bs : List ℕ). IsPastNumber bs r) at p.number) q.number

pub no_value : (line at : List ℕ) → IsPast (codes "=") line at → ((rest : List ℕ) → IsPastNumber at rest → ⊥) → (rest : List ℕ) → IsPastValue line rest → ⊥
no_value line at p none rest v = none rest (subst (λ (bs : List ℕ). IsPastNumber bs rest) (one_past (codes "=") line v.at_number at refl v.sign p) v.number)

-- ---- the size

module _ (line rest : List ℕ) (h : BeginsWithSize line rest) where
  pub at_x : (r : List ℕ) → line ≡ codes "x" ++ r → h.behind_x ≡ r
  at_x r e = append_cancel_left (codes "x") h.behind_x r (sym h.x ∙ e)

  pub width_at : (r : List ℕ) → line ≡ codes "x" ++ r → IsPastValue r h.behind_width
  width_at r e = subst (λ (bs : List ℕ). IsPastValue bs h.behind_width) (at_x r e) h.width

  pub comma_at : (r s : List ℕ) → line ≡ codes "x" ++ r → IsPastValue r s → IsPast (codes ",") s h.behind_comma
  comma_at r s e v = subst (λ (bs : List ℕ). IsPast (codes ",") bs h.behind_comma) (one_value r h.behind_width s (width_at r e) v) h.comma

  pub y_at : (r s t : List ℕ) → line ≡ codes "x" ++ r → IsPastValue r s → IsPast (codes ",") s t → IsPast (codes "y") t h.behind_y
  y_at r s t e v c = subst (λ (bs : List ℕ). IsPast (codes "y") bs h.behind_y) (one_past (codes ",") s h.behind_comma t refl (comma_at r s e v) c) h.y

  pub height_at : (r s t u : List ℕ) → line ≡ codes "x" ++ r → IsPastValue r s → IsPast (codes ",") s t → IsPast (codes "y") t u → IsPastValue u rest
  height_at r s t u e v c y = subst (λ (bs : List ℕ). IsPastValue bs rest) (one_past (codes "y") t h.behind_y u refl (y_at r s t e v c) y) h.height

pub one_size : (line r s : List ℕ) → BeginsWithSize line r → BeginsWithSize line s → r ≡ s
one_size line r s p q = one_value q.behind_y r s (height_at line r p q.behind_x q.behind_width q.behind_comma q.behind_y q.x q.width q.comma q.y) q.height

-- ---- the rule

module _ (text name : List ℕ) (h : GivesRule text name) where
  pub rule_at : (r : List ℕ) → IsPast (codes ",") text r → IsPast (codes "rule") r h.behind_rule
  rule_at r c = subst (λ (bs : List ℕ). IsPast (codes "rule") bs h.behind_rule) (one_past (codes ",") text h.behind_comma r refl h.comma c) h.rule

  pub sign_at : (r s : List ℕ) → IsPast (codes ",") text r → IsPast (codes "rule") r s → IsPast (codes "=") s name
  sign_at r s c w = subst (λ (bs : List ℕ). IsPast (codes "=") bs name) (one_past (codes "rule") r h.behind_rule s refl (rule_at r c) w) h.sign

pub one_rule : (text m n : List ℕ) → GivesRule text m → GivesRule text n → m ≡ n
one_rule text m n p q = one_past (codes "=") q.behind_rule m n refl (sign_at text m p q.behind_comma q.behind_rule q.comma q.rule) q.sign

-- ---- its name

pub named_by : (rule bytes : List ℕ) → IsPastBlanks rule bytes → (name gap : List ℕ) → bytes ≡ name ++ gap → IsBlank gap → IsRuleName name → NamesLife rule
named_by rule bytes b name gap e blank is = record {
  gap_1 = b.gap;
  name = name;
  gap_2 = gap;
  whole = b.split ∙ ap (λ (bs : List ℕ). b.gap ++ bs) e;
  blank_1 = b.blank;
  blank_2 = blank;
  life = is;
}

-- a blank stays itself in lower case
blank_lower : (b : ℕ) → is_blank_byte b ≡ true → (to_ascii_lowercase b ≡ 32) ⊎ (to_ascii_lowercase b ≡ 9)
blank_lower b h = elim (or_cases _ _ h) [
  | inl e ↦ inl (ap to_ascii_lowercase (eqb-true b 32 e))
  | inr e ↦ inr (ap to_ascii_lowercase (eqb-true b 9 e))
]

inked_lower : (b c : ℕ) → to_ascii_lowercase b ≡ c → c ≢ 32 → c ≢ 9 → is_blank_byte b ≡ false
inked_lower b c e m n = elim (cases_Bool (is_blank_byte b)) [
  | inl h ↦ elim (blank_lower b h) [ inl k ↦ absurd (m (sym e ∙ k)) | inr k ↦ absurd (n (sym e ∙ k)) ]
  | inr h ↦ h
]

name_ends : (name rest word : List ℕ) (c : ℕ) → map to_ascii_lowercase name ≡ c ∷ word → c ≢ 32 → c ≢ 9 → EndsBlanks (name ++ rest)
name_ends [] rest word c e m n = cc
name_ends (b ∷ bs) rest word c e m n = λ x xs f. let same : b ≡ x = cc in let lower : to_ascii_lowercase b ≡ c = cc in subst (λ (x : ℕ). is_blank_byte x ≡ false) same (inked_lower b c lower m n)

life_ends : (name rest : List ℕ) → IsRuleName name → EndsBlanks (name ++ rest)
life_ends name rest (inl h) = name_ends name rest _ 98 h (λ e. omega arith) (λ e. omega arith)
life_ends name rest (inr (inl h)) = name_ends name rest _ 50 h (λ e. omega arith) (λ e. omega arith)
life_ends name rest (inr (inr h)) = name_ends name rest _ 108 h (λ e. omega arith) (λ e. omega arith)

words_by : (bytes name gap : List ℕ) → bytes ≡ name ++ gap → IsBlank gap → IsRuleName name → IsWordOf (codes "b3/s23") bytes ⊎ (IsWordOf (codes "23/3") bytes ⊎ IsWordOf (codes "life") bytes)
words_by bytes name gap e blank (inl h) = inl (name, (gap, (e, (h, blank))))
words_by bytes name gap e blank (inr (inl h)) = inr (inl (name, (gap, (e, (h, blank)))))
words_by bytes name gap e blank (inr (inr h)) = inr (inr (name, (gap, (e, (h, blank)))))

pub words_of : (rule bytes : List ℕ) → IsPastBlanks rule bytes → NamesLife rule → IsWordOf (codes "b3/s23") bytes ⊎ (IsWordOf (codes "23/3") bytes ⊎ IsWordOf (codes "life") bytes)
words_of rule bytes b h =
    words_by bytes h.name h.gap_2 (same_blanks b.gap h.gap_1 bytes (h.name ++ h.gap_2) b.blank h.blank_1 b.ended (life_ends h.name h.gap_2 h.life) (sym b.split ∙ h.whole)) h.blank_2 h.life

-- ---- the whole header

pub header_without_rule : (line rest : List ℕ) → BeginsWithSize line rest → rest ≡ [] → IsHeader line
header_without_rule line rest size none = record { rest = rest; size = size; rule = inl none }

pub header_with_rule : (line rest name : List ℕ) → BeginsWithSize line rest → GivesRule rest name → NamesLife name → IsHeader line
header_with_rule line rest name size rule life = record { rest = rest; size = size; rule = inr (name, (rule, life)) }

pub form_with_rule : (line rest name : List ℕ) → BeginsWithSize line rest → GivesRule rest name → HasHeaderForm line
form_with_rule line rest name size rule = record { rest = rest; size = size; rule = inr (name, rule) }

rule_of_other : (line rest name : List ℕ) → GivesRule rest name → 0 < length rest → ¬ NamesLife name → (last : List ℕ) → last ≡ rest → (last ≡ []) ⊎ ((other : List ℕ) × (GivesRule last other × NamesLife other)) → ⊥
rule_of_other line rest name rule some other last e (inl none) = omega (arith, ap length e, ap length none)
rule_of_other line rest name rule some other last e (inr h) =
    other (subst NamesLife (one_rule rest h.0 name (subst (λ (bs : List ℕ). GivesRule bs h.0) e h.1.0) rule) h.1.1)

pub no_header_with : (line rest name : List ℕ) → BeginsWithSize line rest → GivesRule rest name → 0 < length rest → ¬ NamesLife name → IsHeader line → ⊥
no_header_with line rest name size rule some other h = rule_of_other line rest name rule some other h.rest (one_size line h.rest rest h.size size) h.rule

no_rule_in : (rest : List ℕ) → 0 < length rest → ((name : List ℕ) → GivesRule rest name → ⊥) → (last : List ℕ) → last ≡ rest → (last ≡ []) ⊎ ((name : List ℕ) × GivesRule last name) → ⊥
no_rule_in rest some none last e (inl empty) = omega (arith, ap length e, ap length empty)
no_rule_in rest some none last e (inr h) = none h.0 (subst (λ (bs : List ℕ). GivesRule bs h.0) e h.1)

pub no_form_with : (line rest : List ℕ) → BeginsWithSize line rest → 0 < length rest → ((name : List ℕ) → GivesRule rest name → ⊥) → HasHeaderForm line → ⊥
no_form_with line rest size some none h = no_rule_in rest some none h.rest (one_size line h.rest rest h.size size) h.rule

-- a header has the form of one
form_by : (rest : List ℕ) → (rest ≡ []) ⊎ ((name : List ℕ) × (GivesRule rest name × NamesLife name)) → (rest ≡ []) ⊎ ((name : List ℕ) × GivesRule rest name)
form_by rest (inl none) = inl none
form_by rest (inr h) = inr (h.0, h.1.0)

pub form_of_header : (line : List ℕ) → IsHeader line → HasHeaderForm line
form_of_header line h = record { rest = h.rest; size = h.size; rule = form_by h.rest h.rule }

x_not_passed : (rest : List ℕ) → IsPassedOver (120 ∷ rest) → ⊥
x_not_passed rest (inl h) = cc
x_not_passed rest (inr h) = let no = h.0 in cc

-- a header is no comment and not blank
pub header_not_passed : (line : List ℕ) → IsHeader line → IsPassedOver line → ⊥
header_not_passed line h p = x_not_passed h.size.behind_x (subst IsPassedOver h.size.x p)
