-- The lines of a text that is written.
use Rattle.std.proofs.Common.{◌≡◌, ◌≢◌, ℕ, suc, ◌-◌, ◌<◌, ◌^◌, true, false, not, ◌==◌, List, [], ◌∷◌, ◌++◌, length, take, slice_index, if◌then◌else◌, refl, sym, ap, ◌∙◌, subst, inl, arith, Option, Some, None, codes}
use Rattle.std.specs.List.{list_all, AllByRecursion}
use Rattle.std.specs.Str.Lines.{strip_carriage_return}
use Rattle.std.proofs.lemmas.List.{append_assoc, append-nil, length-append}
use Rattle.std.proofs.lemmas.Bool.{ne_eqb, or_parts, not-true, not_from_false, and_from}
use Rattle.life_cells.specs.declared.cell.Cell.{Cell}
use Rattle.life_rle.specs.Written.{HasNoLineBreak, place_line, note_line, header_line}
use Rattle.text_lines.specs.Lines.{first_line}
use Rattle.life_rle.specs.Rests.{BeginsWithLines}
use Rattle.text_lines.specs.Blanks.{is_comment, IsPassedOver}
use Rattle.life_rle.specs.Header.{IsHeader}
use Rattle.life_rle.specs.Text.{IsPlace, HasBody}
use Rattle.life_rle.specs.ByteLaws.{all_append, weaker, is_inner}
use Rattle.text_lines.specs.LineLaws.{strip_same, first_is, behind_is}
use Rattle.life_rle.proofs.Headers.{header_not_passed}
use Rattle.life_rle.proofs.Heading.{IsNear, place_text, place_line_is, place_is_read, place_text_inner, header_text, header_line_is, header_text_inner, header_is_read}

-- ---- one line

module _ (line rest : List ℕ) (inner : list_all (λ b. not (b == 10)) line ≡ true) where
  line_more : (head : List (List ℕ)) (last : List ℕ) → BeginsWithLines rest head last → BeginsWithLines (line ++ (10 ∷ rest)) (strip_carriage_return line ∷ head) last
  line_more head last h = (omega (arith, length-append line (10 ∷ rest)), (first_is line rest inner, subst (λ (bs : List ℕ). BeginsWithLines bs head last) (sym (behind_is line rest inner)) h))

inner_no_feed : (line : List ℕ) → list_all is_inner line ≡ true → list_all (λ b. not (b == 10)) line ≡ true
inner_no_feed line h = weaker is_inner (λ b. not (b == 10)) (λ b k. not_from_false _ (or_parts (b == 10) (b == 13) (not-true _ k)).0) line h

inner_same : (line : List ℕ) → list_all is_inner line ≡ true → strip_carriage_return line ≡ line
inner_same line h = strip_same line (weaker is_inner (λ b. not (b == 13)) (λ b k. not_from_false _ (or_parts (b == 10) (b == 13) (not-true _ k)).1) line h)

-- a line that keeps its end
line_kept : (line rest : List ℕ) (head : List (List ℕ)) (last : List ℕ) → list_all is_inner line ≡ true → BeginsWithLines rest head last → BeginsWithLines (line ++ (10 ∷ rest)) (line ∷ head) last
line_kept line rest head last inner h = subst (λ (l : List ℕ). BeginsWithLines (line ++ (10 ∷ rest)) (l ∷ head) last) (inner_same line inner) (line_more line rest (inner_no_feed line inner) head last h)

-- ---- the lines before the items

abbrev pub note_text : List ℕ → List ℕ
note_text note = codes "#C " ++ note

pub no_line_feed : (note : List ℕ) → AllByRecursion (λ b. b ≢ 10) note → list_all (λ b. not (b == 10)) note ≡ true
no_line_feed [] h = refl
no_line_feed (b ∷ bs) h = and_from _ _ (ap not (ne_eqb b 10 h.0)) (no_line_feed bs h.1)

-- the lines before the header; a carriage return at a note's end is none of it
abbrev pub head_lines : Cell → Option (List ℕ) → List (List ℕ)
head_lines place None = place_text place ∷ []
head_lines place (Some note) = place_text place ∷ strip_carriage_return (note_text note) ∷ []

note_is_comment : (note : List ℕ) → is_comment (strip_carriage_return (note_text note)) ≡ true
note_is_comment note =
    let l = note_text note in
    let k : length l - 1 ≡ suc (suc (length note)) = omega arith in
    elim (slice_index l (length l - 1) == 13) as (λ v. is_comment (if v then take (length l - 1) l else l) ≡ true) [
      | true ↦ ap (λ n. is_comment (take n l)) k
      | false ↦ refl
    ]

pub passed_over : (place : Cell) (note : Option (List ℕ)) → AllByRecursion IsPassedOver (head_lines place note)
passed_over place None = (inl refl, tt)
passed_over place (Some note) = (inl refl, (inl (note_is_comment note), tt))

pub place_found : (place : Cell) (note : Option (List ℕ)) → IsNear place.x → IsNear place.y → IsPlace (head_lines place note) place
place_found place None x y = place_is_read place x y
place_found place (Some note) x y = place_is_read place x y

head_begins : (place : Cell) (note : Option (List ℕ)) (rest : List ℕ) → IsNear place.x → IsNear place.y → HasNoLineBreak note → BeginsWithLines ((place_line place ++ note_line note) ++ rest) (head_lines place note) rest
head_begins place None rest x y n =
    let whole : (place_line place ++ []) ++ rest ≡ place_text place ++ (10 ∷ rest) = ap (λ (bs : List ℕ). bs ++ rest) (append-nil (place_line place) ∙ place_line_is place) ∙ append_assoc (place_text place) (10 ∷ []) rest in
    subst (λ (bs : List ℕ). BeginsWithLines bs (place_text place ∷ []) rest) (sym whole) (line_kept (place_text place) rest [] rest (place_text_inner place x y) refl)
head_begins place (Some note) rest x y n =
    let noted : List ℕ = note_text note ++ (10 ∷ rest) in
    let whole : (place_line place ++ note_line (Some note)) ++ rest ≡ place_text place ++ (10 ∷ noted) =
    append_assoc (place_line place) (note_line (Some note)) rest ∙ ap (λ (bs : List ℕ). bs ++ (note_line (Some note) ++ rest)) (place_line_is place) ∙ append_assoc (place_text place) (10 ∷ []) (note_line (Some note) ++ rest)
    ∙ ap (λ (bs : List ℕ). place_text place ++ (10 ∷ bs)) (append_assoc (note_text note) (10 ∷ []) rest) in
    subst (λ (bs : List ℕ). BeginsWithLines bs (head_lines place (Some note)) rest) (sym whole)
    (line_kept (place_text place) noted (strip_carriage_return (note_text note) ∷ []) rest (place_text_inner place x y)
    (line_more (note_text note) rest (all_append (λ b. not (b == 10)) (codes "#C ") note refl (no_line_feed note n)) [] rest refl))

module _ (place : Cell) (note : Option (List ℕ)) (width height : ℕ) (body : List ℕ) (x : IsNear place.x) (y : IsNear place.y) (n : HasNoLineBreak note) (w : width < 10 ^ 18) (h : height < 10 ^ 18) where
  header_first : first_line (header_text width height ++ (10 ∷ body)) ≡ header_text width height
  header_first = let inner = header_text_inner width height w h in first_is (header_text width height) body (inner_no_feed (header_text width height) inner) ∙ inner_same (header_text width height) inner

  pub written_body : HasBody (((place_line place ++ note_line note) ++ header_line width height) ++ body) place body
  written_body =
      let header = header_text width height in
      let rest : List ℕ = header ++ (10 ∷ body) in
      let whole : ((place_line place ++ note_line note) ++ header_line width height) ++ body ≡ (place_line place ++ note_line note) ++ rest =
      append_assoc (place_line place ++ note_line note) (header_line width height) body ∙ ap (λ (bs : List ℕ). (place_line place ++ note_line note) ++ bs) (ap (λ (bs : List ℕ). bs ++ body) (header_line_is width height) ∙ append_assoc header (10 ∷ []) body) in
      subst (λ (text : List ℕ). HasBody text place body) (sym whole) (record {
        head = head_lines place note;
        rest = rest;
        at_header = record {
          lines_are = head_begins place note rest x y n;
          passed = passed_over place note;
          other = λ passed. header_not_passed header (header_is_read width height w h) (subst IsPassedOver header_first passed);
        };
        header = subst IsHeader (sym header_first) (header_is_read width height w h);
        place_is = place_found place note x y;
        body_is = behind_is header body (inner_no_feed header (header_text_inner width height w h));
      })
