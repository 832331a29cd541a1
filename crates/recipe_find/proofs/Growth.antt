-- A book grows by what its candidates add, one after the other.
use Rattle.std.proofs.Common.{◌≡◌, ℕ, suc, ◌+◌, ◌*◌, ◌≤◌, List, [], ◌∷◌, ◌++◌, length, take, Option, Some, None, Contains, refl, sym, ap, subst, ◌∙◌, inl, inr, arith, append_assoc}
use Rattle.std.specs.Prelude.{MatchOption}
use Rattle.std.proofs.lemmas.List.{length-append, append-nil, take_all, take-append-le}
use Rattle.std.specs.List.{AllByRecursion}
use Rattle.book_parts.specs.Said.{Said}
use Rattle.book_parts.specs.declared.turn.RawTurn.{RawTurn}
use Rattle.book_parts.specs.declared.salvo.RawSalvo.{RawSalvo}
use Rattle.book_parts.specs.declared.kind.RawKind.{RawKind}
use Rattle.book_parts.specs.declared.settings.Settings.{Settings}
use Rattle.life_cells.specs.Cells.{Cells}
use Rattle.recipe_turn.specs.Checked.{Checked, raws}
use Rattle.recipe_hit.specs.Checked.{Struck}
use Rattle.recipe_book.specs.Checked.{CheckedEntries, raw_salvos, said_of}
use Rattle.find_order.specs.Candidates.{candidates}
use Rattle.find_order.specs.Fit.{IsFitting}
use Rattle.find_order.specs.declared.candidate.Candidate.{Candidate}
use Rattle.find_order.specs.declared.candidate.Candidate.TheVariants.{Lanes, Delays}
use Rattle.recipe_find.specs.Adding.{AddsSalvo, AddsTurn, AreAdded, known}
use Rattle.recipe_find.specs.Growing.{Gains, Grow}
use Rattle.recipe_find.specs.Extended.{first_candidates, IsExtended}
use Rattle.life_plane.specs.ListLaws.{all_back}
use Rattle.recipe_find.specs.declared.limits.TheConstants.{MOST_GENERATIONS}

-- ---- one candidate

-- lanes add no turn, and delays add no salvo
no_turn_of_lanes : (book : Said) (number : ℕ) (lanes : _) (turn : RawTurn) → AddsTurn book number (Lanes lanes) turn → ⊥
no_turn_of_lanes book number lanes turn adds = let e = adds.delays in cc

no_salvo_of_delays : (book : Said) (number kind : ℕ) (delays : _) (salvo : RawSalvo) → AddsSalvo book number (Delays kind delays) salvo → ⊥
no_salvo_of_delays book number kind delays salvo adds = let e = adds.lanes in cc

-- what was found was pushed
gained : {A : Type 0} (Adds : ℕ → Candidate → A → Type 0) (number : ℕ) (candidate : Candidate) (before after : List A) (found : Option A) →
    MatchOption found ((entry : A) → Adds number candidate entry → ⊥) (Adds number candidate) → MatchOption found (after ≡ before) (λ entry. after ≡ before ++ (entry ∷ [])) → Gains Adds number candidate before after
gained Adds number candidate before after None none same = inr (none, same)
gained Adds number candidate before after (Some entry) adds pushed = inl (entry, (adds, pushed))

pub lanes_grow : (book : Said) (number : ℕ) (lanes : _) (turns : List RawTurn) (salvos salvos_then : List RawSalvo) (found : Option RawSalvo) →
    MatchOption found ((salvo : RawSalvo) → AddsSalvo book number (Lanes lanes) salvo → ⊥) (AddsSalvo book number (Lanes lanes)) →
    MatchOption found (salvos_then ≡ salvos) (λ entry. salvos_then ≡ salvos ++ (entry ∷ [])) → Grow book number (Lanes lanes) turns turns salvos salvos_then
lanes_grow book number lanes turns salvos salvos_then found adds pushed = record {
  turns_gain = inr (no_turn_of_lanes book number lanes, refl);
  salvos_gain = gained (AddsSalvo book) number (Lanes lanes) salvos salvos_then found adds pushed;
}

pub delays_grow : (book : Said) (number kind : ℕ) (delays : _) (turns turns_then : List RawTurn) (salvos : List RawSalvo) (found : Option RawTurn) →
    MatchOption found ((turn : RawTurn) → AddsTurn book number (Delays kind delays) turn → ⊥) (AddsTurn book number (Delays kind delays)) →
    MatchOption found (turns_then ≡ turns) (λ entry. turns_then ≡ turns ++ (entry ∷ [])) → Grow book number (Delays kind delays) turns turns_then salvos salvos
delays_grow book number kind delays turns turns_then salvos found adds pushed = record {
  turns_gain = gained (AddsTurn book) number (Delays kind delays) turns turns_then found adds pushed;
  salvos_gain = inr (no_salvo_of_delays book number kind delays, refl);
}

-- a candidate that the book has adds nothing
pub known_adds_nothing : (book : Said) (number : ℕ) (candidate : Candidate) (turns : List RawTurn) (salvos : List RawSalvo) → Contains (known book) candidate → Grow book number candidate turns turns salvos salvos
known_adds_nothing book number candidate turns salvos there = record {
  turns_gain = inr (λ turn adds. adds.unknown there, refl);
  salvos_gain = inr (λ salvo adds. adds.unknown there, refl);
}

-- ---- one after the other

added_more : {A : Type 0} (Adds : ℕ → Candidate → A → Type 0) (number : ℕ) (done : List Candidate) (candidate : Candidate) (before added after : List A) →
    AreAdded Adds number done added → Gains Adds (length done + number) candidate (before ++ added) after → (then : List A) × (AreAdded Adds number (done ++ (candidate ∷ [])) then × (after ≡ before ++ then))
added_more Adds number [] candidate before added after are (inl g) =
    (g.0 ∷ [], (inl (g.0, (subst (λ n. Adds n candidate g.0) (omega arith) g.1.0, ([], (refl, refl)))), g.1.1 ∙ ap (λ l. (before ++ l) ++ (g.0 ∷ [])) are ∙ ap (λ l. l ++ (g.0 ∷ [])) (append-nil before)))
added_more Adds number [] candidate before added after are (inr g) =
    ([], (inr (λ entry adds. g.0 entry (subst (λ n. Adds n candidate entry) (omega arith) adds), refl), g.1 ∙ ap (λ l. before ++ l) are))
added_more {A} Adds number (first ∷ done) candidate before added after (inl h) g =
    let entry = h.0 in let rest = h.1.1.0 in let is : added ≡ entry ∷ rest = h.1.1.1.0 in
    let shifted : Gains Adds (length done + suc number) candidate ((before ++ (entry ∷ [])) ++ rest) after =
    subst (λ n. Gains Adds n candidate ((before ++ (entry ∷ [])) ++ rest) after) (omega arith)
    (subst (λ l. Gains Adds (length (first ∷ done) + number) candidate l after) (ap (λ l. before ++ l) is ∙ sym (append_assoc before (entry ∷ []) rest)) g) in
    let more = added_more Adds (suc number) done candidate (before ++ (entry ∷ [])) rest after h.1.1.1.1 shifted in
    (entry ∷ more.0, (inl (entry, (h.1.0, (more.0, (refl, more.1.0)))), more.1.1 ∙ append_assoc before (entry ∷ []) more.0))
added_more {A} Adds number (first ∷ done) candidate before added after (inr h) g =
    let shifted : Gains Adds (length done + suc number) candidate (before ++ added) after = subst (λ n. Gains Adds n candidate (before ++ added) after) (omega arith) g in
    let more = added_more Adds (suc number) done candidate before added after h.1 shifted in
    (more.0, (inr (h.0, more.1.0), more.1.1))

-- so many candidates were tried, and these are still to come
pub record IsGrowing (book : Said) (tried : ℕ) (coming : List Candidate) (turns : List RawTurn) (salvos : List RawSalvo) : Type 0 where
  pub done : List Candidate
  pub all : candidates book.settings (length book.kinds) ≡ done ++ coming
  pub count : length done ≡ tried
  pub more_turns : List RawTurn
  pub turns_are : AreAdded (AddsTurn book) 1 done more_turns
  pub turns_is : turns ≡ book.turns ++ more_turns
  pub more_salvos : List RawSalvo
  pub salvos_are : AreAdded (AddsSalvo book) 1 done more_salvos
  pub salvos_is : salvos ≡ book.salvos ++ more_salvos

pub none_tried : (book : Said) (coming : List Candidate) (turns : List RawTurn) (salvos : List RawSalvo) → coming ≡ candidates book.settings (length book.kinds) → turns ≡ book.turns → salvos ≡ book.salvos →
    IsGrowing book 0 coming turns salvos
none_tried book coming turns salvos all t s = record {
  done = [];
  all = sym all;
  count = refl;
  more_turns = [];
  turns_are = refl;
  turns_is = t ∙ sym (append-nil book.turns);
  more_salvos = [];
  salvos_are = refl;
  salvos_is = s ∙ sym (append-nil book.salvos);
}

pub one_tried : (book : Said) (tried : ℕ) (old new : List Candidate) (candidate : Candidate) (turns turns_then : List RawTurn) (salvos salvos_then : List RawSalvo) → IsGrowing book tried old turns salvos → old ≡ candidate ∷ new →
    Grow book (tried + 1) candidate turns turns_then salvos salvos_then → IsGrowing book (tried + 1) new turns_then salvos_then
one_tried book tried old new candidate turns turns_then salvos salvos_then h next grow =
    let count = h.count in
    let number : tried + 1 ≡ length h.done + 1 = omega arith in
    let t = added_more (AddsTurn book) 1 h.done candidate book.turns h.more_turns turns_then h.turns_are
    (subst (λ n. Gains (AddsTurn book) n candidate (book.turns ++ h.more_turns) turns_then) number (subst (λ l. Gains (AddsTurn book) (tried + 1) candidate l turns_then) h.turns_is grow.turns_gain)) in
    let s = added_more (AddsSalvo book) 1 h.done candidate book.salvos h.more_salvos salvos_then h.salvos_are
    (subst (λ n. Gains (AddsSalvo book) n candidate (book.salvos ++ h.more_salvos) salvos_then) number (subst (λ l. Gains (AddsSalvo book) (tried + 1) candidate l salvos_then) h.salvos_is grow.salvos_gain)) in
    let long = length-append h.done (candidate ∷ []) in
    record {
      done = h.done ++ (candidate ∷ []);
      all = h.all ∙ ap (λ l. h.done ++ l) next ∙ sym (append_assoc h.done (candidate ∷ []) new);
      count = omega arith;
      more_turns = t.0;
      turns_are = t.1.0;
      turns_is = t.1.1;
      more_salvos = s.0;
      salvos_are = s.1.0;
      salvos_is = s.1.1;
    }

-- the next candidate fits the book
pub next_fits : (book : Said) (tried : ℕ) (old new : List Candidate) (candidate : Candidate) (turns : List RawTurn) (salvos : List RawSalvo) → IsGrowing book tried old turns salvos → old ≡ candidate ∷ new →
    AllByRecursion (IsFitting (length book.kinds)) (candidates book.settings (length book.kinds)) → IsFitting (length book.kinds) candidate
next_fits book tried old new candidate turns salvos h next fit =
    let all = subst (AllByRecursion (IsFitting (length book.kinds))) (h.all ∙ ap (λ l. h.done ++ l) next) fit in
    (all_back (IsFitting (length book.kinds)) h.done (candidate ∷ new) all).0

-- ---- the whole

whole : (book : Said) (budget tried : ℕ) (coming : List Candidate) (turns : List RawTurn) (salvos : List RawSalvo) (h : IsGrowing book tried coming turns salvos) → first_candidates book budget ≡ h.done →
    IsExtended book budget (record book { turns = turns; salvos = salvos })
whole book budget tried coming turns salvos h first = record {
  turns = h.more_turns;
  turns_are = subst (λ l. AreAdded (AddsTurn book) 1 l h.more_turns) (sym first) h.turns_are;
  salvos = h.more_salvos;
  salvos_are = subst (λ l. AreAdded (AddsSalvo book) 1 l h.more_salvos) (sym first) h.salvos_are;
  whole_is = let t = h.turns_is in let s = h.salvos_is in λ i. record book { turns = t i; salvos = s i };
}

-- as many were tried as may be
pub budget_spent : (book : Said) (budget tried : ℕ) (coming : List Candidate) (turns : List RawTurn) (salvos : List RawSalvo) → IsGrowing book tried coming turns salvos → tried ≡ budget →
    IsExtended book budget (record book { turns = turns; salvos = salvos })
budget_spent book budget tried coming turns salvos h spent =
    let count = h.count in
    let exact : length h.done ≡ budget = omega arith in
    whole book budget tried coming turns salvos h
    (ap (take budget) h.all ∙ take-append-le budget h.done coming (omega arith) ∙ take_all budget h.done (omega arith))

-- no more are left
pub none_left : (book : Said) (budget tried : ℕ) (coming : List Candidate) (turns : List RawTurn) (salvos : List RawSalvo) → IsGrowing book tried coming turns salvos → tried ≤ budget → coming ≡ [] →
    IsExtended book budget (record book { turns = turns; salvos = salvos })
none_left book budget tried coming turns salvos h most none =
    let count = h.count in
    whole book budget tried coming turns salvos h
    (ap (take budget) (h.all ∙ ap (λ l. h.done ++ l) none ∙ append-nil h.done) ∙ take_all budget h.done (omega arith))

-- a book under way: so many candidates were tried, the hits are at its hand, and the counter of generations rose by as much as they take at most
pub record IsUnderWay (book : CheckedEntries) (tried : ℕ) (coming : List Candidate) (turns : List RawTurn) (salvos : List RawSalvo) (hand : Cells) (before now : ℕ) : Type 0 where
  pub growing : IsGrowing (said_of book) tried coming turns salvos
  pub hand_is : hand ≡ book.hand
  pub least : before ≤ now
  pub most : now ≤ before + MOST_GENERATIONS * tried

pub begins : (book : CheckedEntries) (settings : Settings) (kinds : List RawKind) (checked_turns : List Checked) (checked_salvos : List Struck) (coming : List Candidate) (turns : List RawTurn) (salvos : List RawSalvo) (hand : Cells) (steps : ℕ) →
    settings ≡ book.settings → kinds ≡ book.kinds → checked_turns ≡ book.turns → checked_salvos ≡ book.salvos → hand ≡ book.hand → coming ≡ candidates settings (length kinds) → turns ≡ raws checked_turns → salvos ≡ raw_salvos checked_salvos →
    IsUnderWay book 0 coming turns salvos hand steps steps
begins book settings kinds checked_turns checked_salvos coming turns salvos hand steps same_settings same_kinds same_turns same_salvos same_hand all t s = record {
  growing = none_tried (said_of book) coming turns salvos (all ∙ ap (λ k. candidates settings (length k)) same_kinds ∙ ap (λ e. candidates e (length book.kinds)) same_settings) (t ∙ ap raws same_turns) (s ∙ ap raw_salvos same_salvos);
  hand_is = same_hand;
  least = omega arith;
  most = omega arith;
}

pub goes_on : (book : CheckedEntries) (tried : ℕ) (old new : List Candidate) (candidate : Candidate) (turns turns_then : List RawTurn) (salvos salvos_then : List RawSalvo) (hand hand_then : Cells) (before now then : ℕ) →
    IsUnderWay book tried old turns salvos hand before now → old ≡ candidate ∷ new → Grow (said_of book) (tried + 1) candidate turns turns_then salvos salvos_then → hand_then ≡ hand → now ≤ then → then ≤ now + MOST_GENERATIONS →
    IsUnderWay book (tried + 1) new turns_then salvos_then hand_then before then
goes_on book tried old new candidate turns turns_then salvos salvos_then hand hand_then before now then h next grow same later few = record {
  growing = one_tried (said_of book) tried old new candidate turns turns_then salvos salvos_then h.growing next grow;
  hand_is = same ∙ h.hand_is;
  least = let so_far = h.least in omega arith;
  most = let so_far = h.most in omega arith;
}
