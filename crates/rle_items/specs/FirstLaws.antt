-- Where bytes have their first one of a kind, and the run of a kind at their front.
use Rattle.std.proofs.Common.{◌≡◌, ℕ, ◌+◌, ◌<◌, ◌≤◌, Bool, true, false, not, List, [], ◌∷◌, ◌++◌, length, get_or, take, drop, refl, sym, ap, ◌∙◌, subst, inl, inr, arith, Some, None, cond, ltb}
use Rattle.std.specs.List.{AllByRecursion, position, position_or_len}
use Rattle.std.proofs.lemmas.Bool.{cases_lt, lt-ltb, not-true, not-false}
use Rattle.std.proofs.lemmas.List.{take-append-drop, get_or-take, drop_more, drop_all, length-take, append-nil}
use Rattle.std.proofs.lemmas.List.Sums.{fails_before_first}
use Rattle.std.proofs.lemmas.List.Quantifiers.{position-Some}
use Rattle.life_plane.specs.ListLaws.{all_at_places, all_weaker}

-- ---- the first one

-- bytes that are no such ones, one that is, and what follows
pub record IsCut (p : ℕ → Bool) (bytes : List ℕ) (n : ℕ) (front : List ℕ) (b : ℕ) (back : List ℕ) : Type 0 where
  pub within : n < length bytes
  pub whole : bytes ≡ front ++ (b ∷ back)
  pub others : AllByRecursion (λ c. p c ≡ false) front
  pub passes : p b ≡ true

pub cut_at : (p : ℕ → Bool) (bytes : List ℕ) (n : ℕ) → position p bytes ≡ Some n → IsCut p bytes n (take n bytes) (get_or bytes n 0) (drop (n + 1) bytes)
cut_at p bytes n e =
    let at = position-Some p bytes n 0 e in
    let within : n < length bytes = at.0 in
    record {
      within = within;
      whole = sym (take-append-drop n bytes) ∙ ap (λ (bs : List ℕ). take n bytes ++ bs) (drop_more bytes n 0 within);
      others = all_at_places (λ c. p c ≡ false) (take n bytes) 0 (λ k l. let below : k < n = omega (arith, length-take n bytes) in rw get_or-take (at.2 k below));
      passes = at.1;
    }

past_end : (p len : ℕ) → cond (ltb p len) (Some p) None ≡ None → len ≤ p
past_end p len e = elim (cases_lt p len) [ inl h ↦ absurd (cc (e, lt-ltb p len h)) | inr h ↦ h ]

pub none_passes : (p : ℕ → Bool) (bytes : List ℕ) → position p bytes ≡ None → AllByRecursion (λ c. p c ≡ false) bytes
none_passes p bytes e = all_at_places (λ c. p c ≡ false) bytes 0 (λ k l. let past = past_end (position_or_len p bytes) (length bytes) e in fails_before_first p bytes k 0 (omega arith))

-- ---- the run at the front

module _ (p : ℕ → Bool) where
  -- more begins with no such byte
  abbrev pub EndsRun : List ℕ → Type 0
  EndsRun more = (b : ℕ) (bs : List ℕ) → more ≡ b ∷ bs → p b ≡ false

  -- bytes are a run of such ones, and more
  pub record IsRun (bytes run more : List ℕ) : Type 0 where
    pub split : bytes ≡ run ++ more
    pub each : AllByRecursion (λ b. p b ≡ true) run
    pub ended : EndsRun more

  no_others : (bs : List ℕ) → AllByRecursion (λ b. not (p b) ≡ false) bs → AllByRecursion (λ b. p b ≡ true) bs
  no_others bs h = all_weaker (λ b. not (p b) ≡ false) (λ b. p b ≡ true) (λ b e. not-false _ e) bs h

  pub run_before : (bytes : List ℕ) (n : ℕ) → position (λ b. not (p b)) bytes ≡ Some n → IsRun bytes (take n bytes) (drop n bytes)
  run_before bytes n e =
      let cut = cut_at (λ b. not (p b)) bytes n e in
      let more : drop n bytes ≡ get_or bytes n 0 ∷ drop (n + 1) bytes = drop_more bytes n 0 cut.within in
      record {
        split = sym (take-append-drop n bytes);
        each = no_others (take n bytes) cut.others;
        ended = λ b bs k. let same : get_or bytes n 0 ≡ b = cc in subst (λ (c : ℕ). p c ≡ false) same (not-true _ cut.passes);
      }

  pub run_whole : (bytes : List ℕ) (n : ℕ) → n ≡ length bytes → position (λ b. not (p b)) bytes ≡ None → IsRun bytes (take n bytes) (drop n bytes)
  run_whole bytes n l e =
      let none : drop n bytes ≡ [] = drop_all n bytes (omega arith) in
      let all : take n bytes ≡ bytes = sym (append-nil (take n bytes)) ∙ ap (λ (bs : List ℕ). take n bytes ++ bs) (sym none) ∙ take-append-drop n bytes in
      record {
        split = sym (take-append-drop n bytes);
        each = subst (λ (bs : List ℕ). AllByRecursion (λ b. p b ≡ true) bs) (sym all) (no_others bytes (none_passes (λ b. not (p b)) bytes e));
        ended = λ b bs k. absurd (let empty : [] ≡ b ∷ bs = sym none ∙ k in cc);
      }

  -- a run ends at one place
  pub one_run : (r s m n : List ℕ) → AllByRecursion (λ b. p b ≡ true) r → AllByRecursion (λ b. p b ≡ true) s → EndsRun m → EndsRun n → r ++ m ≡ s ++ n → (r ≡ s) × (m ≡ n)
  one_run [] [] m n g h d e q = (refl, q)
  one_run [] (b ∷ s) m n g h d e q = absurd (let other = d b (s ++ n) q in let passes = h.0 in cc)
  one_run (b ∷ r) [] m n g h d e q = absurd (let other = e b (r ++ m) (sym q) in let passes = g.0 in cc)
  one_run (b ∷ r) (c ∷ s) m n g h d e q =
      let head : b ≡ c = cc in
      let tail : r ++ m ≡ s ++ n = cc in
      let rest = one_run r s m n g.1 h.1 d e tail in
      (λ i. head i ∷ rest.0 i, rest.1)
