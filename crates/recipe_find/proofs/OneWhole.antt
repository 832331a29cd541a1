-- A book and what its candidates add are one book.
use Rattle.std.proofs.Common.{◌≡◌, ℕ, suc, ℤ, List, [], ◌∷◌, refl, sym, subst, ◌∙◌, inl, inr, arith}
use Rattle.std.specs.List.{AllByRecursion}
use Rattle.life_cells.specs.Cells.{alive}
use Rattle.book_parts.specs.Said.{Said}
use Rattle.book_parts.specs.Proper.{IsProperKind, entry_names}
use Rattle.book_parts.specs.declared.turn.RawTurn.{RawTurn}
use Rattle.book_parts.specs.declared.salvo.RawSalvo.{RawSalvo}
use Rattle.recipe_turn.specs.Checked.{AreValid}
use Rattle.find_order.specs.declared.candidate.Candidate.{Candidate}
use Rattle.find_salvo.specs.Salvos.{IsSalvoOutcome}
use Rattle.find_salvo.specs.declared.outcome.Outcome.{Outcome}
use Rattle.find_turn.specs.Found.{IsLeastTurn}
use Rattle.find_turn.specs.declared.found_turn.FoundTurn.{FoundTurn}
use Rattle.recipe_find.specs.Adding.{lanes_of, delays_of, outcome_of, end_of, AddsSalvo, AddsTurn, AreAdded}
use Rattle.recipe_find.specs.Extended.{first_candidates, with_more, IsExtended}
use Rattle.recipe_find.specs.Refusals.{HasRoom, IsFull, FindingIsRefused}
use Rattle.recipe_find.specs.declared.error.Full.{Full}
use Rattle.recipe_find.specs.declared.error.Full.TheVariants.{Salvos, Turns, Cells}
use Rattle.recipe_find.specs.declared.error.FindError.{FindError}
use Rattle.recipe_find.specs.declared.error.FindError.TheVariants.{BookFull, Memory}
use Rattle.recipe_find.proofs.Finding.{OneOutcome, OneTurn}
use Rattle.recipe_find.proofs.Naming.{one_new_name}

-- what candidates add is one list, where each adds one entry at most
one_list : {A : Type 0} (Adds : ℕ → Candidate → A → Type 0) → ((n : ℕ) (c : Candidate) (x y : A) → Adds n c x → Adds n c y → x ≡ y) → (n : ℕ) (cs : List Candidate) (a b : List A) → AreAdded Adds n cs a → AreAdded Adds n cs b → a ≡ b
one_list Adds one n [] a b h k = h ∙ sym k
one_list Adds one n (c ∷ cs) a b (inl h) (inl k) =
    let first = one n c h.0 k.0 h.1.0 k.1.0 in
    let rest = one_list Adds one (suc n) cs h.1.1.0 k.1.1.0 h.1.1.1.1 k.1.1.1.1 in
    h.1.1.1.0 ∙ (λ i. first i ∷ rest i) ∙ sym k.1.1.1.0
one_list Adds one n (c ∷ cs) a b (inl h) (inr k) = absurd (k.0 h.0 h.1.0)
one_list Adds one n (c ∷ cs) a b (inr h) (inl k) = absurd (h.0 k.0 k.1.0)
one_list Adds one n (c ∷ cs) a b (inr h) (inr k) = one_list Adds one (suc n) cs a b h.1 k.1

same_lanes : (c : Candidate) (x y : RawSalvo) → c ≡ lanes_of x → c ≡ lanes_of y → x.lanes ≡ y.lanes
same_lanes c x y h k = let e : lanes_of x ≡ lanes_of y = sym h ∙ k in cc

one_salvo : OneOutcome → (book : Said) (n : ℕ) (c : Candidate) (x y : RawSalvo) → AddsSalvo book n c x → AddsSalvo book n c y → x ≡ y
one_salvo law book n c x y h k =
    let names = one_new_name (entry_names book) n x.name y.name h.name k.name in
    let lanes = same_lanes c x y h.lanes k.lanes in
    let outcomes : outcome_of x ≡ outcome_of y = law (alive book.hand) y.lanes (outcome_of x) (outcome_of y) (subst (λ l. IsSalvoOutcome (alive book.hand) l (outcome_of x)) lanes h.outcome) k.outcome in
    λ i. salvo (names i) (lanes i) (outcomes i)
  where
    salvo : List ℕ → List ℤ → Outcome → RawSalvo
    salvo name lanes outcome = record { name = name; lanes = lanes; product = outcome.product; hand = outcome.hand }

same_kind : (c : Candidate) (x y : RawTurn) → c ≡ delays_of x → c ≡ delays_of y → x.kind ≡ y.kind
same_kind c x y h k = let e : delays_of x ≡ delays_of y = sym h ∙ k in cc

same_delays : (c : Candidate) (x y : RawTurn) → c ≡ delays_of x → c ≡ delays_of y → x.delays ≡ y.delays
same_delays c x y h k = let e : delays_of x ≡ delays_of y = sym h ∙ k in cc

one_turn : OneTurn → (book : Said) → AllByRecursion IsProperKind book.kinds → AreValid book.settings book.kinds → (n : ℕ) (c : Candidate) (x y : RawTurn) → AddsTurn book n c x → AddsTurn book n c y → x ≡ y
one_turn law book proper valid n c x y h k =
    let names = one_new_name (entry_names book) n x.name y.name h.name k.name in
    let kinds = same_kind c x y h.delays k.delays in
    let delays = same_delays c x y h.delays k.delays in
    let least : IsLeastTurn book.settings book.kinds y.kind y.delays (end_of x) =
    subst (λ d. IsLeastTurn book.settings book.kinds y.kind d (end_of x)) delays (subst (λ t. IsLeastTurn book.settings book.kinds t x.delays (end_of x)) kinds h.least) in
    let ends : end_of x ≡ end_of y = law book.settings book.kinds y.kind y.delays (end_of x) (end_of y) proper valid least k.least in
    λ i. turn (names i) (kinds i) (ends i) (delays i)
  where
    turn : List ℕ → ℕ → FoundTurn → List ℤ → RawTurn
    turn name kind found delays = record { name = name; kind = kind; end = found.end; n = found.n; delays = delays }

pub one_whole : OneOutcome → OneTurn → (book a b : Said) (budget : ℕ) → AllByRecursion IsProperKind book.kinds → AreValid book.settings book.kinds → IsExtended book budget a → IsExtended book budget b → a ≡ b
one_whole outcomes turns book a b budget proper valid h k =
    let same_turns = one_list (AddsTurn book) (one_turn turns book proper valid) 1 (first_candidates book budget) h.turns k.turns h.turns_are k.turns_are in
    let same_salvos = one_list (AddsSalvo book) (one_salvo outcomes book) 1 (first_candidates book budget) h.salvos k.salvos h.salvos_are k.salvos_are in
    h.whole_is ∙ (λ i. with_more book (same_turns i) (same_salvos i)) ∙ sym k.whole_is

-- a book with room isn't full
not_full : (book : Said) (what : Full) (count : ℕ) → HasRoom book → IsFull book what count → ⊥
not_full book Salvos count room full = let a = room.salvos in let b = full.over in omega arith
not_full book Turns count room full = let a = room.turns in let b = full.1.over in omega arith
not_full book Cells count room full = let a = room.cells in let b = full.1.1.over in omega arith

pub not_refused : ((book a b : Said) (budget : ℕ) → AllByRecursion IsProperKind book.kinds → AreValid book.settings book.kinds → IsExtended book budget a → IsExtended book budget b → a ≡ b) →
    (book whole : Said) (budget : ℕ) (e : FindError) → AllByRecursion IsProperKind book.kinds → AreValid book.settings book.kinds → IsExtended book budget whole → HasRoom whole → FindingIsRefused book budget e → e ≡ Memory
not_refused one book whole budget (BookFull what count) proper valid h room refused =
    absurd (not_full whole what count room (subst (λ w. IsFull w what count) (one book refused.whole whole budget proper valid refused.extended h) refused.full))
not_refused one book whole budget Memory proper valid h room refused = refl
