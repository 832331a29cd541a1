-- The sound entries and the verdicts so far, as entries are judged one after the other.
use Rattle.std.specs.Prelude.{◌≡◌, ℕ, ◌+◌, ◌≤◌, List, [], ◌∷◌, ◌++◌, length, map, sum_by}
use Rattle.std.specs.List.{AllByRecursion, AllZip}
use Rattle.std.proofs.Common.{refl, sym, ap, subst, ◌∙◌, arith, inl, inr, append_assoc}
use Rattle.std.proofs.lemmas.List.{append-nil}
use Rattle.std.proofs.lemmas.List.Sums.{sum_by-cons}
use Rattle.life_plane.specs.ListLaws.{all_push}
use Rattle.recipe_book.specs.Entries.{AreThose}
use Rattle.recipe_book.specs.Accepting.{AddsVerdicts}
use Rattle.recipe_book.specs.declared.verdict.Verdict.{Verdict}

-- What is found of all entries, with a rest of them still to be judged: raw gives an entry as its book states it, weight its most generations;
-- old and now are the verdicts, before and after the counts of generations.
pub record IsSoFar {A C : Type 0} (raw : C → A) (Sound : A → Type 0) (Kept : C → Type 0) (Judges : A → Verdict → Type 0) (Proper : A → Type 0) (weight : A → ℕ)
    (all rest : List A) (found : List C) (old now : List Verdict) (before after : ℕ) : Type 0 where
  pub sound : (later : List A) → AreThose Sound rest later → AreThose Sound all (map raw found ++ later)
  pub proper : AllByRecursion Proper rest
  pub kept : AllByRecursion Kept found
  pub added : List Verdict
  pub grown : now ≡ old ++ added
  pub judged : (later : List Verdict) → AllZip Judges rest later → AllZip Judges all (added ++ later)
  pub least : before ≤ after
  pub most : (after + sum_by weight rest) ≤ (before + sum_by weight all)

map_push : {A C : Type 0} (raw : C → A) (found : List C) (c : C) (later : List A) → map raw (found ++ (c ∷ [])) ++ later ≡ map raw found ++ (raw c ∷ later)
map_push raw [] c later = refl
map_push raw (f ∷ found) c later = ap (λ l. raw f ∷ l) (map_push raw found c later)

pub begins : {A C : Type 0} (raw : C → A) (Sound : A → Type 0) (Kept : C → Type 0) (Judges : A → Verdict → Type 0) (Proper : A → Type 0) (weight : A → ℕ)
    (all : List A) (old : List Verdict) (before : ℕ) → AllByRecursion Proper all → IsSoFar raw Sound Kept Judges Proper weight all all [] old old before before
begins raw Sound Kept Judges Proper weight all old before p = record {
  sound = λ later h. h;
  proper = p;
  kept = tt;
  added = [];
  grown = sym (append-nil old);
  judged = λ later h. h;
  least = omega arith;
  most = omega arith;
}

-- the next entry isn't sound
pub skips : {A C : Type 0} {raw : C → A} {Sound : A → Type 0} {Kept : C → Type 0} {Judges : A → Verdict → Type 0} {Proper : A → Type 0} {weight : A → ℕ}
    {all : List A} {x : A} {rest : List A} {found : List C} {old now : List Verdict} {before after : ℕ} → (next : ℕ) (v : Verdict) →
    (Sound x → ⊥) → Judges x v → after ≤ next → next ≤ after + weight x →
    IsSoFar raw Sound Kept Judges Proper weight all (x ∷ rest) found old now before after → IsSoFar raw Sound Kept Judges Proper weight all rest found old (now ++ (v ∷ [])) before next
skips {weight = weight} {x = x} {rest = rest} {old = old} next v unsound judges low high s =
    let sum = sum_by-cons weight x rest in
    let least = s.least in
    let most = s.most in
    record {
      sound = λ later h. s.sound later (inr (unsound, h));
      proper = s.proper.1;
      kept = s.kept;
      added = s.added ++ (v ∷ []);
      grown = ap (λ l. l ++ (v ∷ [])) s.grown ∙ append_assoc old s.added (v ∷ []);
      judged = λ later h. subst (AllZip _ _) (sym (append_assoc s.added (v ∷ []) later)) (s.judged (v ∷ later) (judges, h));
      least = omega arith;
      most = omega arith;
    }

-- the next entry is sound
pub takes : {A C : Type 0} {raw : C → A} {Sound : A → Type 0} {Kept : C → Type 0} {Judges : A → Verdict → Type 0} {Proper : A → Type 0} {weight : A → ℕ}
    {all : List A} {x : A} {rest : List A} {found : List C} {old now : List Verdict} {before after : ℕ} → (next : ℕ) (v : Verdict) (c : C) →
    raw c ≡ x → Sound x → Kept c → Judges x v → after ≤ next → next ≤ after + weight x →
    IsSoFar raw Sound Kept Judges Proper weight all (x ∷ rest) found old now before after →
    IsSoFar raw Sound Kept Judges Proper weight all rest (found ++ (c ∷ [])) old (now ++ (v ∷ [])) before next
takes {raw = raw} {Sound = Sound} {Kept = Kept} {weight = weight} {all = all} {x = x} {rest = rest} {found = found} {old = old} next v c is sound kept judges low high s =
    let sum = sum_by-cons weight x rest in
    let least = s.least in
    let most = s.most in
    record {
      sound = λ later h. subst (AreThose Sound all) (sym (map_push raw found c later))
          (s.sound (raw c ∷ later) (inl (sound, (later, (ap (λ t. t ∷ later) is, h)))));
      proper = s.proper.1;
      kept = all_push Kept found c s.kept kept;
      added = s.added ++ (v ∷ []);
      grown = ap (λ l. l ++ (v ∷ [])) s.grown ∙ append_assoc old s.added (v ∷ []);
      judged = λ later h. subst (AllZip _ _) (sym (append_assoc s.added (v ∷ []) later)) (s.judged (v ∷ later) (judges, h));
      least = omega arith;
      most = omega arith;
    }

pub sound_at_end : {A C : Type 0} {raw : C → A} {Sound : A → Type 0} {Kept : C → Type 0} {Judges : A → Verdict → Type 0} {Proper : A → Type 0} {weight : A → ℕ}
    {all : List A} {found : List C} {old now : List Verdict} {before after : ℕ} →
    IsSoFar raw Sound Kept Judges Proper weight all [] found old now before after → AreThose Sound all (map raw found)
sound_at_end {raw = raw} {Sound = Sound} {all = all} {found = found} s = subst (AreThose Sound all) (append-nil (map raw found)) (s.sound [] refl)

pub verdicts_at_end : {A C : Type 0} {raw : C → A} {Sound : A → Type 0} {Kept : C → Type 0} {Judges : A → Verdict → Type 0} {Proper : A → Type 0} {weight : A → ℕ}
    {all : List A} {found : List C} {old now : List Verdict} {before after : ℕ} →
    IsSoFar raw Sound Kept Judges Proper weight all [] found old now before after → AddsVerdicts Judges all old now
verdicts_at_end s = record {
  added = s.added;
  grown = s.grown;
  are = subst (AllZip _ _) (append-nil s.added) (s.judged [] tt);
}

-- no more generations are counted than all entries may take, wherever the judging stops
pub record IsWithin {A : Type 0} (weight : A → ℕ) (before now : ℕ) (all : List A) : Type 0 where
  pub least : before ≤ now
  pub most : now ≤ (before + sum_by weight all)

pub within : {A C : Type 0} {raw : C → A} {Sound : A → Type 0} {Kept : C → Type 0} {Judges : A → Verdict → Type 0} {Proper : A → Type 0} {weight : A → ℕ}
    {all : List A} {x : A} {rest : List A} {found : List C} {old now : List Verdict} {before after : ℕ} → (next : ℕ) → after ≤ next → next ≤ after + weight x →
    IsSoFar raw Sound Kept Judges Proper weight all (x ∷ rest) found old now before after → IsWithin weight before next all
within {weight = weight} {x = x} {rest = rest} next low high s =
    let sum = sum_by-cons weight x rest in
    let least = s.least in
    let most = s.most in
    record { least = omega arith; most = omega arith }

-- a list of no length has no element
pub none_left : {A : Type 0} (xs : List A) (n : ℕ) → n ≡ length xs → n ≡ 0 → xs ≡ []
none_left [] n h e = refl
none_left (x ∷ xs) n h e = absurd (omega arith)

-- one is taken from a list whose length is known
pub one_less : {A : Type 0} (all rest : List A) (x : A) (n m : ℕ) → all ≡ x ∷ rest → n ≡ length all → m + 1 ≡ n → m ≡ length rest
one_less all rest x n m is h e = let longer = ap length is in omega arith
