-- The laws of the lines of a text.
use Rattle.std.proofs.Common.{◌≡◌, ℕ, ◌-◌, ◌+◌, ◌<◌, ◌≤◌, ◌⊎◌, Bool, true, false, not, ◌==◌, List, [], ◌∷◌, ◌++◌, length, get_or, take, drop, slice_index, if◌then◌else◌, refl, ap, ◌∙◌, inl, inr, arith, zero, suc, cond, eqb, sym}
use Rattle.std.specs.List.{AllByRecursion, All, list_all, slice_split, onto_first, position_or_len}
use Rattle.std.specs.Str.Lines.{lines, lines_of_parts, strip_carriage_return}
use Rattle.std.proofs.lemmas.Bool.{cases_lt, ne_eqb, eqb-true, eq-eqb, and_parts, not-true}
use Rattle.std.proofs.lemmas.List.{drop_all, length-take, length-append, get_or-take}
use Rattle.std.proofs.lemmas.List.Elements.{All-from_get_or, recursion_from_All}
use Rattle.std.proofs.lemmas.List.Splits.{slice_split_first, slice_split_none}
use Rattle.std.proofs.lemmas.List.Sums.{split_at_first, passes_at_first, fails_before_first}
use Rattle.std.proofs.Math.Seq.{take-append_seam, drop-append-add}
use Rattle.text_lines.specs.Lines.{is_line_feed, front, first_line, behind}

-- ---- the first line and what follows it

-- the text has a line feed, and this stands around the first
pub record HasFeed (text : List ℕ) : Type 0 where
  pub within : position_or_len is_line_feed text < length text
  pub whole : text ≡ front text ++ (10 ∷ behind text)
  pub line_is : first_line text ≡ strip_carriage_return (front text)

-- it has none
pub record HasNoFeed (text : List ℕ) : Type 0 where
  pub past : length text ≤ position_or_len is_line_feed text
  pub line_is : first_line text ≡ text
  pub behind_is : behind text ≡ []

pub has_feed : (text : List ℕ) → position_or_len is_line_feed text < length text → HasFeed text
has_feed text within =
    let size = length-take (position_or_len is_line_feed text) text in
    let other : eqb (length (front text)) (length text) ≡ false = ne_eqb _ _ (λ e. omega arith) in
    let byte : get_or text (position_or_len is_line_feed text) 0 ≡ 10 = eqb-true _ 10 (passes_at_first is_line_feed text 0 within) in
    record {
      within = within;
      whole = split_at_first is_line_feed text 0 within ∙ ap (λ (b : ℕ). front text ++ (b ∷ behind text)) byte;
      line_is = rw other refl;
    }

has_no_feed : (text : List ℕ) → length text ≤ position_or_len is_line_feed text → HasNoFeed text
has_no_feed text past =
    let size = length-take (position_or_len is_line_feed text) text in
    let same : eqb (length (front text)) (length text) ≡ true = eq-eqb _ _ (omega arith) in
    record { past = past; line_is = rw same refl; behind_is = drop_all (position_or_len is_line_feed text + 1) text (omega arith) }

pub feed_or_not : (text : List ℕ) → HasFeed text ⊎ HasNoFeed text
feed_or_not text = elim (cases_lt (position_or_len is_line_feed text) (length text)) [ inl h ↦ inl (has_feed text h) | inr h ↦ inr (has_no_feed text h) ]

-- no line feed stands before the first
pub front_inner : (text : List ℕ) → AllByRecursion (λ b. is_line_feed b ≡ false) (front text)
front_inner text =
    recursion_from_All (λ b. is_line_feed b ≡ false) (front text) (All-from_get_or (λ b. is_line_feed b ≡ false) (front text) 0 (λ k l.
    let below : k < position_or_len is_line_feed text = omega (arith, length-take (position_or_len is_line_feed text) text) in
    rw get_or-take (fails_before_first is_line_feed text k 0 below)))

all_inner : (text : List ℕ) → length text ≤ position_or_len is_line_feed text → All (λ b. is_line_feed b ≡ false) text
all_inner text past = All-from_get_or (λ b. is_line_feed b ≡ false) text 0 (λ k l. fails_before_first is_line_feed text k 0 (omega arith))

-- nor in a text without one
pub whole_inner : (text : List ℕ) → length text ≤ position_or_len is_line_feed text → AllByRecursion (λ b. is_line_feed b ≡ false) text
whole_inner text past = recursion_from_All (λ b. is_line_feed b ≡ false) text (all_inner text past)

pub behind_short : (text : List ℕ) → 0 < length text → length (behind text) < length text
behind_short text some =
    elim (feed_or_not text) [
      | inl h ↦ omega (arith, length-append (front text) (10 ∷ behind text), ap length h.whole)
      | inr h ↦ omega (arith, ap length h.behind_is)
    ]

-- ---- all lines

pub record IsSplit (parts : List (List ℕ)) : Type 0 where
  pub part : List ℕ
  pub more : List (List ℕ)
  pub parts_are : parts ≡ part ∷ more

-- bytes that are cut have a first part
pub split_some : (p : ℕ → Bool) (bs : List ℕ) → IsSplit (slice_split p bs)
split_some p [] = record { part = []; more = []; parts_are = refl }
split_some p (b ∷ bs) =
    let rest = split_some p bs in
    elim (p b) as (λ v. IsSplit (if v then [] ∷ slice_split p bs else onto_first b (slice_split p bs))) [
      | true ↦ record { part = []; more = slice_split p bs; parts_are = refl }
      | false ↦ record { part = b ∷ rest.part; more = rest.more; parts_are = ap (λ ps. onto_first b ps) rest.parts_are }
    ]

lines_more : (line : List ℕ) (parts : List (List ℕ)) → IsSplit parts → lines_of_parts (line ∷ parts) ≡ strip_carriage_return line ∷ lines_of_parts parts
lines_more line parts s = rw s.parts_are refl

lines_one : (text : List ℕ) → 0 < length text → lines_of_parts (text ∷ []) ≡ text ∷ []
lines_one text some = rw (ne_eqb (length text) 0 (λ e. omega arith)) refl

pub lines_step : (text : List ℕ) → 0 < length text → lines text ≡ first_line text ∷ lines (behind text)
lines_step text some =
    elim (feed_or_not text) [
      | inl h ↦
          ap lines_of_parts (slice_split_first is_line_feed text 0 h.within) ∙ lines_more (front text) (slice_split is_line_feed (behind text)) (split_some is_line_feed (behind text))
          ∙ ap (λ (line : List ℕ). line ∷ lines (behind text)) (sym h.line_is)
      | inr h ↦ ap lines_of_parts (slice_split_none is_line_feed text (all_inner text h.past)) ∙ lines_one text some ∙ (λ k. sym h.line_is k ∷ lines (sym h.behind_is k))
    ]

-- ---- a line that is written

-- a line without a carriage return stays as it is
no_carriage_return : (line : List ℕ) (k : ℕ) → list_all (λ b. not (b == 13)) line ≡ true → slice_index line k == 13 ≡ false
no_carriage_return [] k h = refl
no_carriage_return (b ∷ bs) zero h = not-true _ (and_parts _ _ h).0
no_carriage_return (b ∷ bs) (suc k) h = no_carriage_return bs k (and_parts _ _ h).1

pub strip_same : (line : List ℕ) → list_all (λ b. not (b == 13)) line ≡ true → strip_carriage_return line ≡ line
strip_same line h = ap (λ v. if v then take (length line - 1) line else line) (no_carriage_return line (length line - 1) h)

feed_at : (line rest : List ℕ) → list_all (λ b. not (b == 10)) line ≡ true → position_or_len is_line_feed (line ++ (10 ∷ rest)) ≡ length line
feed_at [] rest h = refl
feed_at (b ∷ line) rest h =
    let parts = and_parts (not (b == 10)) (list_all (λ c. not (c == 10)) line) h in
    ap (λ v. cond v (1 + position_or_len is_line_feed (line ++ (10 ∷ rest))) 0) parts.0 ∙ (let more = feed_at line rest parts.1 in omega arith)

module _ (line rest : List ℕ) (inner : list_all (λ b. not (b == 10)) line ≡ true) where
  front_is : front (line ++ (10 ∷ rest)) ≡ line
  front_is = ap (λ (n : ℕ). take n (line ++ (10 ∷ rest))) (feed_at line rest inner) ∙ take-append_seam line (10 ∷ rest)

  pub first_is : first_line (line ++ (10 ∷ rest)) ≡ strip_carriage_return line
  first_is =
      let within : position_or_len is_line_feed (line ++ (10 ∷ rest)) < length (line ++ (10 ∷ rest)) = omega (arith, feed_at line rest inner, length-append line (10 ∷ rest)) in
      (has_feed (line ++ (10 ∷ rest)) within).line_is ∙ ap strip_carriage_return front_is

  pub behind_is : behind (line ++ (10 ∷ rest)) ≡ rest
  behind_is = ap (λ (n : ℕ). drop (n + 1) (line ++ (10 ∷ rest))) (feed_at line rest inner) ∙ drop-append-add line (10 ∷ rest) 1

  pub lines_first : lines (line ++ (10 ∷ rest)) ≡ strip_carriage_return line ∷ lines rest
  lines_first = lines_step (line ++ (10 ∷ rest)) (omega (arith, length-append line (10 ∷ rest))) ∙ (λ k. first_is k ∷ lines (behind_is k))
