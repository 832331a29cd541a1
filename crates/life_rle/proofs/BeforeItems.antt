-- What stands before the items.
use Rattle.std.proofs.Common.{◌≡◌, ℕ, ◌+◌, ◌<◌, ◌≤◌, ◌⊎◌, Bool, true, false, List, [], ◌∷◌, ◌++◌, length, refl, sym, ap, ◌∙◌, subst, inl, inr, arith, Option, Some, None, MatchOption, cond, pos}
use Rattle.std.specs.List.{AllByRecursion, find}
use Rattle.std.specs.Option.{is_some}
use Rattle.std.specs.Str.Lines.{lines}
use Rattle.std.proofs.lemmas.List.{append-nil, length-append}
use Rattle.life_plane.specs.ListLaws.{all_push}
use Rattle.life_cells.specs.Cells.{cell}
use Rattle.life_cells.specs.declared.cell.Cell.{Cell}
use Rattle.life_rle.specs.declared.start.PlaceLine.{PlaceLine}
use Rattle.life_rle.specs.declared.error.RleError.{RleError}
use Rattle.life_rle.specs.declared.error.RleError.TheVariants.{NoHeader, BadHeader, BadRule, BadItem, BadCount, NoEnd, TooFar, TooMany, Memory}
use Rattle.text_lines.specs.Lines.{first_line, behind}
use Rattle.life_rle.specs.Rests.{BeginsWithLines}
use Rattle.life_rle.specs.Header.{IsHeader}
use Rattle.text_lines.specs.Blanks.{IsPassedOver, words}
use Rattle.life_rle.specs.Text.{gives_place, IsPlaceIn, IsPlace, IsAtHeader, HasBody}
use Rattle.rle_items.specs.ItemFaults.{BeginsAt}
use Rattle.life_rle.specs.TextFaults.{HasPlaceLine, HasFarPlace, StartStopsWith}
use Rattle.life_rle.specs.Opened.{HasFound, IsOpened, Gives, GivesFar, PlaceIsRefused}
use Rattle.life_rle.specs.HeaderRead.{HeaderIsRefused}
use Rattle.life_rle.proofs.Lined.{lines_push, lines_split}
use Rattle.text_lines.specs.LineLaws.{behind_short}

-- ---- what was found

find_old : (p : List ℕ → Bool) (ls : List (List ℕ)) (l found : List ℕ) → find p ls ≡ Some found → find p (ls ++ (l ∷ [])) ≡ Some found
find_old p [] l found e = cc
find_old p (k ∷ ls) l found e =
    elim (p k) as (λ b. cond b (Some k) (find p ls) ≡ Some found → cond b (Some k) (find p (ls ++ (l ∷ []))) ≡ Some found) [ true ↦ λ h. h | false ↦ λ h. find_old p ls l found h ] e

find_new : (p : List ℕ → Bool) (ls : List (List ℕ)) (l : List ℕ) → AllByRecursion (λ k. p k ≡ false) ls → p l ≡ true → find p (ls ++ (l ∷ [])) ≡ Some l
find_new p [] l none here = ap (λ b. cond b (Some l) None) here
find_new p (k ∷ ls) l none here = ap (λ b. cond b (Some k) (find p (ls ++ (l ∷ [])))) none.0 ∙ find_new p ls l none.1 here

find_none : (p : List ℕ → Bool) (ls : List (List ℕ)) → AllByRecursion (λ k. p k ≡ false) ls → find p ls ≡ None
find_none p [] none = refl
find_none p (k ∷ ls) none = ap (λ b. cond b (Some k) (find p ls)) none.0 ∙ find_none p ls none.1

module _ (text rest : List ℕ) (some : 0 < length rest) (passed : IsPassedOver (first_line rest)) (number : ℕ) where
  one_more : (head : List (List ℕ)) → number ≡ length head + 1 → number + 1 ≡ length (head ++ (first_line rest ∷ [])) + 1
  one_more head h = omega (arith, length-append head (first_line rest ∷ []))

  -- the first line that may give the place
  pub opened_first : (before : Option PlaceLine) → is_some before ≡ false → IsOpened text rest before number → gives_place (first_line rest) ≡ true
      → (found : PlaceLine) → found.line.now ≡ first_line rest → BeginsAt text rest found.at → IsOpened text (behind rest) (Some found) (number + 1)
  opened_first (Some other) none h gives found line at = cc
  opened_first None none h gives found line at = record {
    head = h.head ++ (first_line rest ∷ []);
    lines_are = lines_push text h.head rest h.lines_are some;
    passed = all_push IsPassedOver h.head (first_line rest) h.passed passed;
    found_is = (
      find_new gives_place h.head (first_line rest) h.found_is gives ∙ ap (λ (l : List ℕ). Some l) (sym line),
      record { before = h.head; rest = rest; lines_are = h.lines_are; others = h.found_is; gives = gives; place = at },
    );
    number = one_more h.head h.number;
  }

  found_again : (head : List (List ℕ)) (before : Option PlaceLine) → (is_some before ≡ true) ⊎ (gives_place (first_line rest) ≡ false) → HasFound text head before → HasFound text (head ++ (first_line rest ∷ [])) before
  found_again head None (inl n) h = cc
  found_again head None (inr n) h = all_push (λ l. gives_place l ≡ false) head (first_line rest) h n
  found_again head (Some found) other h = (find_old gives_place head (first_line rest) found.line.now h.0, h.1)

  -- another line
  pub opened_again : (before : Option PlaceLine) → (is_some before ≡ true) ⊎ (gives_place (first_line rest) ≡ false) → IsOpened text rest before number → IsOpened text (behind rest) before (number + 1)
  opened_again before other h = record {
    head = h.head ++ (first_line rest ∷ []);
    lines_are = lines_push text h.head rest h.lines_are some;
    passed = all_push IsPassedOver h.head (first_line rest) h.passed passed;
    found_is = found_again h.head before other h.found_is;
    number = one_more h.head h.number;
  }

pub opened_whole : (text : List ℕ) → IsOpened text text None 1
opened_whole text = record { head = []; lines_are = refl; passed = tt; found_is = tt; number = refl }

-- there are not more lines than bytes
pub lines_few : (text : List ℕ) (head : List (List ℕ)) (rest : List ℕ) → BeginsWithLines text head rest → length head + length rest ≤ length text
lines_few text [] rest h = omega (arith, ap length h)
lines_few text (line ∷ head) rest h = let more = lines_few (behind text) head rest h.1.1 in let shorter = behind_short text h.0 in omega arith

pub number_small : (text rest : List ℕ) (found : Option PlaceLine) (number : ℕ) → IsOpened text rest found number → number + length rest ≤ length text + 1
number_small text rest found number h = let few = lines_few text h.head rest h.lines_are in let is = h.number in omega arith

-- ---- the header and the place

pub place_from : (text : List ℕ) (head : List (List ℕ)) (found : Option PlaceLine) (place : Cell) → HasFound text head found → Gives found place → IsPlace head place
place_from text head None place h g =
    let P : Option (List ℕ) → Type 0 = λ o. MatchOption o (place ≡ cell (pos 0) (pos 0)) (λ line. IsPlaceIn (words line) place) in
    subst P (sym (find_none gives_place head h)) g
place_from text head (Some found) place h g =
    let P : Option (List ℕ) → Type 0 = λ o. MatchOption o (place ≡ cell (pos 0) (pos 0)) (λ line. IsPlaceIn (words line) place) in
    subst P (sym h.0) g

pub no_lines : (text rest : List ℕ) (found : Option PlaceLine) (number : ℕ) → IsOpened text rest found number → rest ≡ [] → AllByRecursion IsPassedOver (lines text)
no_lines text rest found number h none =
    let all : lines text ≡ h.head = lines_split text h.head rest h.lines_are ∙ ap (λ (bs : List ℕ). h.head ++ lines bs) none ∙ append-nil h.head in
    subst (λ (ls : List (List ℕ)). AllByRecursion IsPassedOver ls) (sym all) h.passed

module _ (text rest : List ℕ) (found : Option PlaceLine) (number : ℕ) (h : IsOpened text rest found number) (other : ¬ IsPassedOver (first_line rest)) where
  at_header : IsAtHeader text h.head rest
  at_header = record { lines_are = h.lines_are; passed = h.passed; other = other }

  header_stops : (e : RleError) → HeaderIsRefused (first_line rest) number e → StartStopsWith text e
  header_stops (BadHeader line) p = record { head = h.head; rest = rest; at_header = at_header; other = p.0; number = p.1 ∙ h.number }
  header_stops (BadRule line) p = record { head = h.head; rest = rest; at_header = at_header; form = p.0.0; other = p.0.1; number = p.1 ∙ h.number }
  header_stops NoHeader p = absurd p
  header_stops (BadItem at) p = absurd p
  header_stops (BadCount at) p = absurd p
  header_stops NoEnd p = absurd p
  header_stops (TooFar at) p = absurd p
  header_stops (TooMany count) p = absurd p
  header_stops Memory p = absurd p

  pub stops_at_header : (line : List ℕ) → line ≡ first_line rest → (e : RleError) → HeaderIsRefused line number e → StartStopsWith text e
  stops_at_header line is e p = header_stops e (subst (λ (l : List ℕ). HeaderIsRefused l number e) is p)

  pub body_from : (place : Cell) (body : List ℕ) → IsHeader (first_line rest) → Gives found place → body ≡ behind rest → HasBody text place body
  body_from place body header g e = record { head = h.head; rest = rest; at_header = at_header; header = header; place_is = place_from text h.head found place h.found_is g; body_is = sym e }

  far_from : (body : List ℕ) (line : PlaceLine) (at : ℕ) → IsHeader (first_line rest) → body ≡ behind rest → found ≡ Some line → GivesFar line at → HasFarPlace text at
  far_from body line at header e is far =
      let line_found = subst (λ (o : Option PlaceLine). HasFound text h.head o) is h.found_is in
      record {
        place = far.place;
        body = body;
        has_body = body_from far.place body header (subst (λ (o : Option PlaceLine). Gives o far.place) (sym is) far.gives) e;
        far = far.far;
        line = subst (λ (n : ℕ). HasPlaceLine text n) (sym far.at_is) line_found.1;
      }

  pub stops_at_place : (body : List ℕ) (e : RleError) → IsHeader (first_line rest) → body ≡ behind rest → PlaceIsRefused found e → StartStopsWith text e
  stops_at_place body (TooFar at) header e p = far_from body p.0 at header e p.1.0 p.1.1
  stops_at_place body NoHeader header e p = absurd p
  stops_at_place body (BadHeader line) header e p = absurd p
  stops_at_place body (BadRule line) header e p = absurd p
  stops_at_place body (BadItem at) header e p = absurd p
  stops_at_place body (BadCount at) header e p = absurd p
  stops_at_place body NoEnd header e p = absurd p
  stops_at_place body (TooMany count) header e p = absurd p
  stops_at_place body Memory header e p = absurd p
