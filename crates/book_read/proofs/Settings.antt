-- The settings that are stated.
use Rattle.std.proofs.Common.{◌≡◌, ℕ, ◌+◌, ◌<◌, ◌≤◌, zero, suc, ◌^◌, ℤ, pos, negsuc, ◌≤ℤ◌, Bool, true, false, cond, List, [], ◌∷◌, ◌++◌, length, map, take, drop, get_or, Option, Some, None, inl, inr, refl, sym, ap, ◌∙◌, subst, arith}
use Rattle.std.specs.List.{AllByRecursion, AllZip, zip}
use Rattle.std.specs.Map.{update}
use Rattle.std.proofs.Math.Seq.{drop-cons}
use Rattle.std.proofs.lemmas.Int.{ints}
use Rattle.std.proofs.lemmas.Slice.Zip.{AllZip-long}
use denote.Enum.Bare.{sameb, same_true, same_false, false_same}
use Rattle.life_cells.specs.Cells.{cell}
use Rattle.life_cells.specs.declared.cell.Cell.{Cell}
use Rattle.book_parts.specs.declared.limits.TheConstants.{MOST_LANES}
use Rattle.book_parts.specs.declared.settings.Range.{Range}
use Rattle.book_parts.specs.declared.settings.Settings.{Settings}
use Rattle.book_parts.specs.Limits.{IsFrom}
use Rattle.book_lines.specs.declared.book_word.BookWord.{BookWord}
use Rattle.book_lines.specs.declared.book_word.BookWord.TheVariants as word
use Rattle.book_lines.specs.contracts.book_word.BookWord.{the_type}
use Rattle.book_lines.specs.declared.limit.Limit.{Limit}
use Rattle.book_lines.specs.declared.limit.Limit.TheVariants as limit
use Rattle.book_lines.specs.declared.statement.SettingLine.{SettingLine}
use Rattle.book_lines.specs.declared.statement.Statement.{Statement}
use Rattle.book_lines.specs.declared.statement.Statement.TheVariants.{Setting}
use Rattle.book_lines.specs.Values.{Level, IsNumberAt}
use Rattle.book_lines.specs.Statements.{States}
use Rattle.book_lines.specs.Limits.{IsWithin, limits}
use Rattle.book_lines.specs.Counts.{HasItsNumbers}
use Rattle.book_read.specs.declared.draft.Draft.{Draft}
use Rattle.book_read.specs.Stated.{Stated, coordinates, range_numbers, setting_numbers}
use Rattle.book_read.specs.Limited.{held, setting_limited, IsFirstOutside}
use Rattle.book_read.specs.Reading.{IsMissing, IsFirstMissing}
use Rattle.book_read.specs.Drafted.{numbers_of, stated_of, AreNumbersOf, HasNumber, HasRange, HasSettings, IsKept}

-- ---- one setting more

one_more : (settings : List SettingLine) (setting : SettingLine) → numbers_of settings setting.word ≡ None → (w : BookWord)
    → numbers_of (settings ++ setting ∷ []) w ≡ update (sameb the_type) (numbers_of settings) setting.word (Some setting.numbers) w
one_more [] setting none w = refl
one_more (first ∷ settings) setting none w = at (sameb the_type first.word setting.word) refl none (λ h. one_more settings setting h w)
  where
    here : (b : Bool) → sameb the_type first.word setting.word ≡ false → sameb the_type first.word w ≡ b
        → numbers_of (settings ++ setting ∷ []) w ≡ update (sameb the_type) (numbers_of settings) setting.word (Some setting.numbers) w
        → cond b (Some first.numbers) (numbers_of (settings ++ setting ∷ []) w) ≡ cond (sameb the_type setting.word w) (Some setting.numbers) (cond b (Some first.numbers) (numbers_of settings w))
    here true other same rest =
        let apart : sameb the_type setting.word w ≡ false = false_same the_type tt setting.word w (λ e. same_false the_type first.word setting.word other (same_true the_type tt first.word w same ∙ sym e)) in
        rw apart refl
    here false other same rest = rest

    at : (b : Bool) → sameb the_type first.word setting.word ≡ b → cond b (Some first.numbers) (numbers_of settings setting.word) ≡ None
        → (numbers_of settings setting.word ≡ None → numbers_of (settings ++ setting ∷ []) w ≡ update (sameb the_type) (numbers_of settings) setting.word (Some setting.numbers) w)
        → numbers_of ((first ∷ settings) ++ setting ∷ []) w ≡ update (sameb the_type) (numbers_of (first ∷ settings)) setting.word (Some setting.numbers) w
    at true e h rest = absurd (cc h)
    at false e h rest = here (sameb the_type first.word w) e refl (rest h)

-- what holds of the numbers of each setting that is stated, with one more
pub of_update : (f : BookWord → Option (List ℤ)) (P : BookWord → List ℤ → Type 0) (v : BookWord) (ys : List ℤ) → ((w : BookWord) (zs : List ℤ) → f w ≡ Some zs → P w zs) → P v ys
    → (w : BookWord) (zs : List ℤ) → update (sameb the_type) f v (Some ys) w ≡ Some zs → P w zs
of_update f P v ys old new w zs e = at (sameb the_type v w) refl e
  where
    at : (b : Bool) → sameb the_type v w ≡ b → cond b (Some ys) (f w) ≡ Some zs → P w zs
    at true same h =
        let numbers : ys ≡ zs = cc in
        subst (λ (u : BookWord). P u zs) (same_true the_type tt v w same) (subst (P v) numbers new)
    at false other h = old w zs h

-- what is stated with one setting more, and that its numbers are kept
pub more_stated : (old new : List SettingLine) (setting : SettingLine) → numbers_of old setting.word ≡ None → new ≡ old ++ setting ∷ []
    → numbers_of new ≡ update (sameb the_type) (numbers_of old) setting.word (Some setting.numbers)
more_stated old new setting none is = ap numbers_of is ∙ (λ i. λ w. one_more old setting none w i)

pub more_kept : (old new : List SettingLine) (setting : SettingLine) → numbers_of old setting.word ≡ None → new ≡ old ++ setting ∷ [] → AreNumbersOf setting.word setting.numbers
    → ((w : BookWord) (zs : List ℤ) → numbers_of old w ≡ Some zs → AreNumbersOf w zs) → (w : BookWord) (zs : List ℤ) → numbers_of new w ≡ Some zs → AreNumbersOf w zs
more_kept old new setting none is here each w zs e =
    of_update (numbers_of old) AreNumbersOf setting.word setting.numbers each here w zs (sym (ap (λ (f : BookWord → Option (List ℤ)). f w) (more_stated old new setting none is)) ∙ e)

-- ---- looking for a setting

pub not_here : (settings : List SettingLine) (i : ℕ) (d : SettingLine) (w : BookWord) → i < length settings → sameb the_type (get_or settings i d).word w ≡ false
    → numbers_of (drop i settings) w ≡ numbers_of (drop (i + 1) settings) w
not_here settings i d w lt other =
    let next : suc i ≡ i + 1 = omega arith in
    ap (λ (ss : List SettingLine). numbers_of ss w) (drop-cons settings i d lt ∙ ap (λ (n : ℕ). get_or settings i d ∷ drop n settings) next) ∙ rw other refl

pub here_found : (settings : List SettingLine) (i : ℕ) (d : SettingLine) (w : BookWord) → i < length settings → sameb the_type (get_or settings i d).word w ≡ true
    → numbers_of (drop i settings) w ≡ Some (get_or settings i d).numbers
here_found settings i d w lt same = ap (λ (ss : List SettingLine). numbers_of ss w) (drop-cons settings i d lt) ∙ rw same refl

-- ---- numbers within their limits

all_within : (ls : List Limit) (zs : List ℤ) → length zs ≡ length ls → IsFirstOutside (map (λ (p : Limit × ℤ). held p.0 p.1) (zip ls zs)) None → AllZip IsWithin ls zs
all_within [] [] count h = tt
all_within [] (z ∷ zs) count h = absurd (omega arith)
all_within (l ∷ ls) [] count h = absurd (omega arith)
all_within (l ∷ ls) (z ∷ zs) count (inl h) = (h.0, all_within ls zs (omega arith) h.1)
all_within (l ∷ ls) (z ∷ zs) count (inr h) = absurd (cc h.1)

pub setting_within : (setting : SettingLine) → HasItsNumbers (Setting setting) → IsFirstOutside (setting_limited setting) None → AreNumbersOf setting.word setting.numbers
setting_within setting its within = record { some = its.0; each = all_within (limits setting.word) setting.numbers its.1 within }

-- a line states as many numbers of a setting as it has limits
pub its_numbers : (line : List ℕ) (s : Statement) → States line s → HasItsNumbers s
its_numbers line (Setting v) h =
    let is = h.items_are in
    let long = AllZip-long (IsNumberAt Level.Whole) h.items v.numbers is.numbers_are.each in
    let some = is.numbers_are.some in
    (omega arith, long ∙ is.count)
its_numbers line other h = tt

-- ---- all settings

one_of : (l : Limit) (zs : List ℤ) → AllZip IsWithin (l ∷ []) zs → (z : ℤ) × (zs ≡ z ∷ [])
one_of l [] h = absurd h
one_of l (z ∷ []) h = (z, refl)
one_of l (z ∷ (y ∷ zs)) h = absurd h.1

two_of : (l m : Limit) (zs : List ℤ) → AllZip IsWithin (l ∷ (m ∷ [])) zs → (place : Cell) × (zs ≡ coordinates place)
two_of l m [] h = absurd h
two_of l m (x ∷ []) h = absurd h.1
two_of l m (x ∷ (y ∷ [])) h = (cell x y, refl)
two_of l m (x ∷ (y ∷ (z ∷ zs))) h = absurd h.1.1

-- a number from 0 on is a count
counted : (z : ℤ) (most : ℕ) → pos 0 ≤ℤ z → z ≤ℤ pos most → (n : ℕ) × ((z ≡ pos n) × (n ≤ most))
counted (pos n) most low high = (n, (refl, omega (arith, ints)))
counted (negsuc n) most low high = absurd (omega (arith, ints))

three_of : (l m n : Limit) (zs : List ℤ) → AllZip IsWithin (l ∷ (m ∷ (n ∷ []))) zs → ((z : ℤ) → IsWithin n z → IsFrom (pos 0) (pos MOST_LANES) z)
    → (range : Range) × ((range.len < 2 ^ 32) × (zs ≡ range_numbers range))
three_of l m n [] h short = absurd h
three_of l m n (x ∷ []) h short = absurd h.1
three_of l m n (x ∷ (y ∷ [])) h short = absurd h.1.1
three_of l m n (x ∷ (y ∷ (z ∷ []))) h short =
    let from = short z h.1.1.0 in
    let len = counted z MOST_LANES from.low from.high in
    (record { low = x; high = y; len = len.0 }, (omega arith, ap (λ (v : ℤ). x ∷ (y ∷ (v ∷ []))) len.1.0))
three_of l m n (x ∷ (y ∷ (z ∷ (v ∷ zs)))) h short = absurd h.1.1.1

some_numbers : {P : List ℤ → Type 0} (o : Option (List ℤ)) → (o ≡ None → ⊥) → ((zs : List ℤ) → o ≡ Some zs → P zs) → (zs : List ℤ) × ((o ≡ Some zs) × P zs)
some_numbers None there each = absurd (there refl)
some_numbers (Some zs) there each = (zs, (refl, each zs refl))

no_numbers : (w : BookWord) (o : Option (List ℤ)) → length (limits w) ≡ 0 → ((zs : List ℤ) → o ≡ Some zs → AreNumbersOf w zs) → o ≡ None
no_numbers w None none each = refl
no_numbers w (Some zs) none each =
    let is = each zs refl in
    let long = AllZip-long IsWithin (limits w) zs is.each in
    let some = is.some in
    absurd (omega arith)

module _ (draft : Draft) (kept : IsKept draft) (there : (w : BookWord) → IsMissing (stated_of draft) w → ⊥) where
  found : (w : BookWord) → (numbers_of draft.settings.items w ≡ None → ⊥) → (zs : List ℤ) × ((numbers_of draft.settings.items w ≡ Some zs) × AreNumbersOf w zs)
  found w some = some_numbers {P = λ zs. AreNumbersOf w zs} (numbers_of draft.settings.items w) some (kept.settings w)

  number : (w : BookWord) (l : Limit) → limits w ≡ l ∷ [] → (numbers_of draft.settings.items w ≡ None → ⊥) → HasNumber draft w
  number w l is some =
      let zs = found w some in
      let one = one_of l zs.0 (subst (λ (ls : List Limit). AllZip IsWithin ls zs.0) is zs.1.1.each) in
      (one.0, zs.1.0 ∙ ap Some one.1)

  range : (w : BookWord) (l m n : Limit) → limits w ≡ l ∷ (m ∷ (n ∷ [])) → ((z : ℤ) → IsWithin n z → IsFrom (pos 0) (pos MOST_LANES) z) → (numbers_of draft.settings.items w ≡ None → ⊥) → HasRange draft w
  range w l m n is short some =
      let zs = found w some in
      let three = three_of l m n zs.0 (subst (λ (ls : List Limit). AllZip IsWithin ls zs.0) is zs.1.1.each) short in
      (three.0, (three.1.0, zs.1.0 ∙ ap Some three.1.1))

  pub has_settings : HasSettings draft
  has_settings = record {
    approach = number word.Approach limit.Approach refl (there word.Approach);
    wall = number word.Wall limit.Wall refl (there word.Wall);
    reach = number word.Reach limit.Reach refl (there word.Reach);
    corner =
        let zs = found word.Corner (there word.Corner) in
        let two = two_of limit.Coordinate limit.Coordinate zs.0 zs.1.1.each in
        (two.0, zs.1.0 ∙ ap Some two.1);
    room = number word.Room limit.Room refl (there word.Room);
    span = number word.Span limit.Span refl (there word.Span);
    lanes = range word.Lanes limit.Coordinate limit.Coordinate limit.LanesLength refl (λ z h. record { low = let low = h.low in omega (arith, ints); high = h.high }) (there word.Lanes);
    delays = range word.Delays limit.LeastGap limit.GreatestGap limit.GapsLength refl (λ z h. record { low = h.low; high = let high = h.high in omega (arith, ints) }) (there word.Delays);
    hand = no_numbers word.Hand (numbers_of draft.settings.items word.Hand) refl (kept.settings word.Hand);
    elbow = no_numbers word.Elbow (numbers_of draft.settings.items word.Elbow) refl (kept.settings word.Elbow);
    start = no_numbers word.Start (numbers_of draft.settings.items word.Start) refl (kept.settings word.Start);
  }

one_known : (y z : ℤ) (o p : Option (List ℤ)) → o ≡ Some (y ∷ []) → p ≡ Some (z ∷ []) → o ≡ p → y ≡ z
one_known y z o p d e same = cc

place_known : (c d : Cell) → Some (coordinates c) ≡ Some (coordinates d) → c ≡ d
place_known c d e = let x : c.x ≡ d.x = cc in let y : c.y ≡ d.y = cc in λ i. record { y = y i; x = x i }

range_known : (r s : Range) → Some (range_numbers r) ≡ Some (range_numbers s) → r ≡ s
range_known r s e = let low : r.low ≡ s.low = cc in let high : r.high ≡ s.high = cc in let len : r.len ≡ s.len = cc in λ i. record { low = low i; high = high i; len = len i }

pub settings_once : (a b : Settings) → setting_numbers a ≡ setting_numbers b → a ≡ b
settings_once a b e =
    let at = λ (w : BookWord). ap (λ (f : BookWord → Option (List ℤ)). f w) e in
    let number : (y z : ℤ) (w : BookWord) → setting_numbers a w ≡ Some (y ∷ []) → setting_numbers b w ≡ Some (z ∷ []) → y ≡ z = λ y z w d f. one_known y z (setting_numbers a w) (setting_numbers b w) d f (at w) in
    let approach = number a.approach b.approach word.Approach refl refl in
    let wall = number a.wall b.wall word.Wall refl refl in
    let reach = number a.reach b.reach word.Reach refl refl in
    let corner = place_known a.corner b.corner (at word.Corner) in
    let room = number a.room b.room word.Room refl refl in
    let span = number a.span b.span word.Span refl refl in
    let lanes = range_known a.lanes b.lanes (at word.Lanes) in
    let delays = range_known a.delays b.delays (at word.Delays) in
    λ i. record { approach = approach i; wall = wall i; reach = reach i; corner = corner i; room = room i; span = span i; lanes = lanes i; delays = delays i }

-- ---- what is missing

pub first_at : (stated : Stated) (ws : List BookWord) (i : ℕ) (d : BookWord) → i < length ws → AllByRecursion (λ (w : BookWord). IsMissing stated w → ⊥) (take i ws) → IsMissing stated (get_or ws i d)
    → IsFirstMissing stated ws (get_or ws i d)
first_at stated [] i d lt before here = absurd (omega arith)
first_at stated (w ∷ ws) zero d lt before here = inl (here, refl)
first_at stated (w ∷ ws) (suc i) d lt before here = inr (before.0, first_at stated ws i d (omega arith) before.1 here)
