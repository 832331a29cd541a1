-- A body word is read in one way.
use Rattle.std.proofs.Common.{◌≡◌, ◌≢◌, ℕ, ◌⊎◌, List, [], ◌∷◌, ◌++◌, length, refl, sym, ap, ◌∙◌, subst, inl, inr, arith}
use Rattle.std.proofs.lemmas.List.{append-nil}
use Rattle.life_plane.specs.Plane.{Plane}
use Rattle.rle_items.specs.declared.item.Item.{Item}
use Rattle.rle_items.specs.declared.error.BodyError.{BodyError}
use Rattle.rle_items.specs.declared.error.BodyError.TheVariants.{BadItem, BadCount, NoEnd, TooFar, TooMany, Memory}
use Rattle.rle_items.specs.Items.{AreCells}
use Rattle.rle_items.specs.Spelling.{Spells, IsNone}
use Rattle.rle_items.specs.Words.{WordMeans}
use Rattle.rle_items.specs.ItemFaults.{ItemsStopWith, IsForLimit}
use Rattle.rle_items.specs.Faults.{origin, IsFineWord, GoesOn, StopsWith}
use Rattle.rle_items.specs.DrawnLaws.{same_cells}
use Rattle.rle_items.specs.SpellingLaws.{none_kind, one_list, one_end}
use Rattle.rle_items.specs.OneReadingLaws.{one_items_refusal, fine_items_are_read, said_items_are_limited}

-- ---- where a refusal comes from

record IsOfEnd (word : List ℕ) (e : BodyError) : Type 0 where
  at : ℕ
  goes_on : GoesOn word at
  is : e ≡ BadItem at

abbrev IsOf : List ℕ → BodyError → Type 0
IsOf word e = ItemsStopWith IsNone word origin word e ⊎ IsOfEnd word e

sorted : (word : List ℕ) (e : BodyError) → e ≢ Memory → StopsWith word e → IsOf word e
sorted word (BadItem at) some (inl h) = inl h
sorted word (BadItem at) some (inr h) = inr (record { at = at; goes_on = h; is = refl })
sorted word (BadCount at) some h = inl h
sorted word NoEnd some h = inl h
sorted word (TooFar at) some h = inl h
sorted word (TooMany count) some h = inl h
sorted word Memory some h = absurd (some refl)

-- items up to a `!` end there
module _ (word : List ℕ) (items others : List Item) (written before ignored last : List ℕ) (whole : word ≡ written ++ (33 ∷ ignored)) (other : word ≡ before ++ (33 ∷ last))
    (spelled : Spells IsNone written items) (spells : Spells IsNone before others) where
  same_end : ignored ≡ last
  same_end = let rests : ◌≡◌ {A = List ℕ} (33 ∷ ignored) (33 ∷ last) = one_end IsNone none_kind items others written before [] [] ignored last spelled spells tt tt (sym whole ∙ other) in cc

-- what is refused among its items is not spelled and fine up to a `!`
module _ (word : List ℕ) (e : BodyError) (some : e ≢ Memory) (p : ItemsStopWith IsNone word origin word e) (items : List Item) (written ignored : List ℕ) (whole : word ≡ written ++ (33 ∷ ignored))
    (spelled : Spells IsNone written items) where
  ended : word ≡ (written ++ []) ++ (33 ∷ ignored)
  ended = whole ∙ ap (λ (bs : List ℕ). bs ++ (33 ∷ ignored)) (sym (append-nil written))

  limited : IsForLimit e
  limited = said_items_are_limited IsNone none_kind word origin word e some p items written [] ignored refl ended spelled

goes_on_or_items : (word : List ℕ) (at : ℕ) (e : BodyError) → e ≢ Memory → GoesOn word at → ItemsStopWith IsNone word origin word e → ⊥
goes_on_or_items word at e some g p =
    let read = g.read in
    fine_items_are_read IsNone none_kind word origin word e some p g.items read.front [] (g.byte ∷ g.more) refl
    (ended word e some p g.items read.front (g.byte ∷ g.more) read.split read.spelled) read.spelled read.fine

one_goes_on_place : (word : List ℕ) (at there : ℕ) → GoesOn word at → GoesOn word there → at ≡ there
one_goes_on_place word at there p q =
    let same = same_end word p.items q.items p.read.front q.read.front (p.byte ∷ p.more) (q.byte ∷ q.more) p.read.split q.read.split p.read.spelled q.read.spelled in
    let left = p.place in
    let right = q.place in
    omega (arith, ap length same)

-- ---- the laws

same_refusal : (word : List ℕ) (e f : BodyError) → e ≢ Memory → f ≢ Memory → IsOf word e → IsOf word f → e ≡ f
same_refusal word e f some other (inl p) (inl q) = one_items_refusal IsNone none_kind word origin word e f p q some other
same_refusal word e f some other (inl p) (inr q) = absurd (goes_on_or_items word q.at e some q.goes_on p)
same_refusal word e f some other (inr p) (inl q) = absurd (goes_on_or_items word p.at f other p.goes_on q)
same_refusal word e f some other (inr p) (inr q) = p.is ∙ ap BadItem (one_goes_on_place word p.at q.at p.goes_on q.goes_on) ∙ sym q.is

pub one_refusal : (word : List ℕ) (e f : BodyError) → StopsWith word e → StopsWith word f → e ≢ Memory → f ≢ Memory → e ≡ f
one_refusal word e f p q some other = same_refusal word e f some other (sorted word e some p) (sorted word f other q)

no_end_goes_on : (word : List ℕ) (at : ℕ) (items : List Item) (written : List ℕ) → word ≡ written ++ (33 ∷ []) → Spells IsNone written items → GoesOn word at → ⊥
no_end_goes_on word at items written whole spelled g =
    let same = same_end word items g.items written g.read.front [] (g.byte ∷ g.more) whole g.read.split spelled g.read.spelled in
    omega (arith, ap length same)

no_refusal : (word : List ℕ) (e : BodyError) → IsFineWord word → IsOf word e → e ≢ Memory → ⊥
no_refusal word e fine (inl p) some =
    let read = fine.1 in
    fine_items_are_read IsNone none_kind word origin word e some p fine.0 read.front [] [] refl (ended word e some p fine.0 read.front [] read.split read.spelled) read.spelled read.fine
no_refusal word e fine (inr p) some = no_end_goes_on word p.at fine.0 fine.1.front fine.1.split fine.1.spelled p.goes_on

pub fine_or_refused : (word : List ℕ) (e : BodyError) → IsFineWord word → StopsWith word e → e ≢ Memory → ⊥
fine_or_refused word e fine p some = no_refusal word e fine (sorted word e some p) some

one_word_meaning : (word : List ℕ) (s t : Plane) (p : WordMeans word s) (q : WordMeans word t) → p.items ≡ q.items → s ≡ t
one_word_meaning word s t p q same = same_cells origin q.items s t (subst (λ (is : List Item). AreCells origin is s) same p.cells) q.cells

pub one_meaning : (word : List ℕ) (s t : Plane) → WordMeans word s → WordMeans word t → s ≡ t
one_meaning word s t p q = one_word_meaning word s t p q (one_list IsNone none_kind p.items q.items p.written q.written [] [] [] [] p.items_are q.items_are tt tt (sym p.whole ∙ q.whole))

meant_or_limited : (word : List ℕ) (s : Plane) (e : BodyError) → e ≢ Memory → WordMeans word s → IsOf word e → IsForLimit e
meant_or_limited word s e some m (inl p) = limited word e some p m.items m.written [] m.whole m.items_are
meant_or_limited word s e some m (inr p) = absurd (no_end_goes_on word p.at m.items m.written m.whole m.items_are p.goes_on)

limited_if_meant : (word : List ℕ) (s : Plane) (e : BodyError) → e ≢ Memory → WordMeans word s → StopsWith word e → IsForLimit e
limited_if_meant word s e some m p = meant_or_limited word s e some m (sorted word e some p)

pub meant_for_limit : (word : List ℕ) (s : Plane) (e : BodyError) → WordMeans word s → StopsWith word e → IsForLimit e
meant_for_limit word s (BadItem at) m p = limited_if_meant word s (BadItem at) (λ e. cc) m p
meant_for_limit word s (BadCount at) m p = limited_if_meant word s (BadCount at) (λ e. cc) m p
meant_for_limit word s NoEnd m p = limited_if_meant word s NoEnd (λ e. cc) m p
meant_for_limit word s (TooFar at) m p = tt
meant_for_limit word s (TooMany count) m p = tt
meant_for_limit word s Memory m p = tt
