-- The sound entries and the verdicts of a book are one list each, and what refuses a book that passes its tests.
use Rattle.std.specs.Prelude.{◌≡◌, ◌≢◌, ℕ, List, [], ◌∷◌, ◌++◌}
use Rattle.std.proofs.Common.{refl, sym, ap, subst, ◌∙◌, inl, inr}
use Rattle.life_plane.specs.Plane.{Plane, IsStill, step}
use Rattle.life_cells.specs.Cells.{Cells, alive}
use Rattle.life_cells.specs.declared.cell.Cell.{Cell}
use Rattle.book_parts.specs.declared.settings.Settings.{Settings}
use Rattle.book_parts.specs.declared.kind.RawKind.{RawKind}
use Rattle.book_parts.specs.declared.turn.RawTurn.{RawTurn}
use Rattle.book_parts.specs.declared.salvo.RawSalvo.{RawSalvo}
use Rattle.book_parts.specs.Kinds.{kind_plane, next_plane}
use Rattle.recipe_turn.specs.Turn.{IsSound}
use Rattle.recipe_turn.specs.declared.refusal.TurnRefusal.{TurnRefusal}
use Rattle.recipe_turn.specs.declared.refusal.TurnRefusal.TheVariants as turns
use Rattle.recipe_hit.specs.Sound as hit
use Rattle.recipe_hit.specs.declared.frame.Hit.{Hit}
use Rattle.recipe_hit.specs.SalvoRefusals.{SalvoIsRefused}
use Rattle.recipe_hit.specs.declared.refusal.SalvoRefusal.{SalvoRefusal}
use Rattle.recipe_hit.specs.declared.refusal.SalvoRefusal.TheVariants as salvos
use Rattle.life_cells.specs.FirstLaws.{one_first}
use Rattle.recipe_turn.specs.Checked.{AreValid}
use Rattle.recipe_turn.specs.Refusals.{KindsAreRefused, TurnIsRefused}
use Rattle.elbow_graph.specs.States.{HasStates, HasMoreStates}
use Rattle.recipe_turn.specs.declared.refusal.KindsError.{KindsError}
use Rattle.recipe_turn.specs.declared.refusal.KindsError.TheVariants as kinds
use Rattle.book_parts.specs.declared.limits.TheConstants.{MOST_STATES}
use Rattle.recipe_book.specs.Entries.{AreThose, IsSoundIn, AreTheSound}
use Rattle.recipe_book.specs.Verdicts.{IsTurnVerdict, IsSalvoVerdict, AreVerdicts}
use Rattle.recipe_book.specs.declared.verdict.Verdict.{Verdict}
use Rattle.recipe_book.specs.declared.verdict.Verdict.TheVariants.{Accepted, Turn, Salvo}
use Rattle.recipe_book.proofs.Judged.{unsound_turn, unsound_salvo}
use Rattle.recipe_book.specs.Refusals.{BookIsRefused}
use Rattle.recipe_book.specs.declared.refusal.BookRefusal.{BookRefusal}
use Rattle.recipe_book.specs.declared.refusal.BookRefusal.TheVariants.{KindPlace, KindNotStill, HandNotStill, ElbowMany, Memory}
use Rattle.book_parts.specs.ListLaws.{one_each}
use Rattle.recipe_book.specs.EntryLaws.{those_once}

-- what is known of refusals of turns and of salvos: what is sound has none, and each has one at most
pub record RefusalsAreExact : Type 0 where
  pub sound_turns : (settings : Settings) (kind next : Plane) (turn : RawTurn) (e : TurnRefusal) → IsSound settings kind next turn → TurnIsRefused settings kind next turn e → e ≡ turns.Memory
  pub one_of_turns : (settings : Settings) (kind next : Plane) (turn : RawTurn) (e f : TurnRefusal) → TurnIsRefused settings kind next turn e → TurnIsRefused settings kind next turn f
      → e ≢ turns.Memory → f ≢ turns.Memory → e ≡ f
  pub sound_salvos : (hand : Plane) (salvo : RawSalvo) (hits : List Hit) (e : SalvoRefusal) → hit.IsSound hand salvo hits → SalvoIsRefused hand salvo e → e ≡ salvos.Memory
  pub one_of_salvos : (hand : Plane) (salvo : RawSalvo) (e f : SalvoRefusal) → SalvoIsRefused hand salvo e → SalvoIsRefused hand salvo f → e ≢ salvos.Memory → f ≢ salvos.Memory → e ≡ f

one_turn_verdict : RefusalsAreExact → (settings : Settings) (list : List RawKind) (turn : RawTurn) (v w : Verdict) → IsTurnVerdict settings list turn v → IsTurnVerdict settings list turn w → v ≡ w
one_turn_verdict law settings list turn Accepted Accepted h k = refl
one_turn_verdict law settings list turn Accepted (Turn e) h k = absurd (unsound_turn law.sound_turns settings list turn e k h)
one_turn_verdict law settings list turn Accepted (Salvo e) h k = absurd k
one_turn_verdict law settings list turn (Turn e) Accepted h k = absurd (unsound_turn law.sound_turns settings list turn e h k)
one_turn_verdict law settings list turn (Turn e) (Turn f) h k =
    ap Turn (law.one_of_turns settings (kind_plane list turn.kind) (next_plane list turn.end) turn e f h.refused k.refused h.not_memory k.not_memory)
one_turn_verdict law settings list turn (Turn e) (Salvo f) h k = absurd k
one_turn_verdict law settings list turn (Salvo e) w h k = absurd h

one_salvo_verdict : RefusalsAreExact → (hand : Plane) (salvo : RawSalvo) (v w : Verdict) → IsSalvoVerdict hand salvo v → IsSalvoVerdict hand salvo w → v ≡ w
one_salvo_verdict law hand salvo Accepted Accepted h k = refl
one_salvo_verdict law hand salvo Accepted (Turn e) h k = absurd k
one_salvo_verdict law hand salvo Accepted (Salvo e) h k = absurd (unsound_salvo law.sound_salvos hand salvo e k h)
one_salvo_verdict law hand salvo (Turn e) w h k = absurd h
one_salvo_verdict law hand salvo (Salvo e) Accepted h k = absurd (unsound_salvo law.sound_salvos hand salvo e h k)
one_salvo_verdict law hand salvo (Salvo e) (Turn f) h k = absurd k
one_salvo_verdict law hand salvo (Salvo e) (Salvo f) h k = ap Salvo (law.one_of_salvos hand salvo e f h.refused k.refused h.not_memory k.not_memory)

-- the verdicts on a book's entries are one list
pub one_list_of_verdicts : RefusalsAreExact → (settings : Settings) (list : List RawKind) (hand : Plane) (ts : List RawTurn) (ss : List RawSalvo) (a b : List Verdict) →
    AreVerdicts settings list hand ts ss a → AreVerdicts settings list hand ts ss b → a ≡ b
one_list_of_verdicts law settings list hand ts ss a b h k =
    let on_turns : h.on_turns ≡ k.on_turns = one_each (IsTurnVerdict settings list) (one_turn_verdict law settings list) ts h.on_turns k.on_turns h.turns_are k.turns_are in
    let on_salvos : h.on_salvos ≡ k.on_salvos = one_each (IsSalvoVerdict hand) (one_salvo_verdict law hand) ss h.on_salvos k.on_salvos h.salvos_are k.salvos_are in
    h.split ∙ (λ i. on_turns i ++ on_salvos i) ∙ sym k.split

place_is : (n : ℕ) (c : Cell) → kinds.Place n c ≡ kinds.Memory → ⊥
place_is n c e = cc

still_is : (n : ℕ) (c : Cell) → kinds.NotStill n c ≡ kinds.Memory → ⊥
still_is n c e = cc

pub no_refusal : ((settings : Settings) (list : List RawKind) (e : KindsError) → AreValid settings list → KindsAreRefused settings list e → e ≡ kinds.Memory) →
    ((turns : List RawTurn) (start : ℕ) (span : _) (limit count : ℕ) → HasStates turns start span limit count → HasMoreStates turns start span limit → ⊥) →
    (settings : Settings) (hand : Cells) (list : List RawKind) (start : ℕ) (turns sound : List RawTurn) (count : ℕ) (e : BookRefusal) →
    AreValid settings list → IsStill (alive hand) → AreTheSound settings list turns sound → HasStates sound start settings.span MOST_STATES count → BookIsRefused settings hand list start turns e → e ≡ Memory
no_refusal kinds_law states_law settings hand list start turns sound count (KindPlace n c) valid still are states r = absurd (place_is n c (kinds_law settings list (kinds.Place n c) valid r))
no_refusal kinds_law states_law settings hand list start turns sound count (KindNotStill n c) valid still are states r = absurd (still_is n c (kinds_law settings list (kinds.NotStill n c) valid r))
no_refusal kinds_law states_law settings hand list start turns sound count (HandNotStill c) valid still are states r = absurd (r.1.is (λ i. still i c.x c.y))
no_refusal kinds_law states_law settings hand list start turns sound count (ElbowMany m) valid still are states r =
    let many = r.1.1.1 in
    absurd (states_law sound start settings.span MOST_STATES count states (subst (λ (ts : List RawTurn). HasMoreStates ts start settings.span MOST_STATES) (those_once (IsSoundIn settings list) turns many.sound sound many.are are) many.more))
no_refusal kinds_law states_law settings hand list start turns sound count Memory valid still are states r = refl

-- what is known of refusals of kinds: valid ones have none, and there is one at most
pub record KindsAreExact : Type 0 where
  pub valid : (settings : Settings) (list : List RawKind) (e : KindsError) → AreValid settings list → KindsAreRefused settings list e → e ≡ kinds.Memory
  pub one : (settings : Settings) (list : List RawKind) (e f : KindsError) → KindsAreRefused settings list e → KindsAreRefused settings list f → e ≢ kinds.Memory → f ≢ kinds.Memory → e ≡ f

same_place : (n m : ℕ) (c d : Cell) → kinds.Place n c ≡ kinds.Place m d → KindPlace n c ≡ KindPlace m d
same_place n m c d e = cc

same_still : (n m : ℕ) (c d : Cell) → kinds.NotStill n c ≡ kinds.NotStill m d → KindNotStill n c ≡ KindNotStill m d
same_still n m c d e = cc

place_or_still : (n m : ℕ) (c d : Cell) → kinds.Place n c ≡ kinds.NotStill m d → ⊥
place_or_still n m c d e = cc

-- a book has one refusal at most
pub one_refusal : KindsAreExact → (settings : Settings) (hand : Cells) (list : List RawKind) (start : ℕ) (ts : List RawTurn) (e f : BookRefusal) →
    BookIsRefused settings hand list start ts e → BookIsRefused settings hand list start ts f → e ≢ Memory → f ≢ Memory → e ≡ f
one_refusal law settings hand list start ts (KindPlace n c) (KindPlace m d) h k x y =
    same_place n m c d (law.one settings list (kinds.Place n c) (kinds.Place m d) h k (place_is n c) (place_is m d))
one_refusal law settings hand list start ts (KindPlace n c) (KindNotStill m d) h k x y =
    absurd (place_or_still n m c d (law.one settings list (kinds.Place n c) (kinds.NotStill m d) h k (place_is n c) (still_is m d)))
one_refusal law settings hand list start ts (KindPlace n c) (HandNotStill d) h k x y = absurd (place_is n c (law.valid settings list (kinds.Place n c) k.0 h))
one_refusal law settings hand list start ts (KindPlace n c) (ElbowMany m) h k x y = absurd (place_is n c (law.valid settings list (kinds.Place n c) k.0 h))
one_refusal law settings hand list start ts (KindNotStill n c) (KindPlace m d) h k x y =
    absurd (place_or_still m n d c (law.one settings list (kinds.Place m d) (kinds.NotStill n c) k h (place_is m d) (still_is n c)))
one_refusal law settings hand list start ts (KindNotStill n c) (KindNotStill m d) h k x y =
    same_still n m c d (law.one settings list (kinds.NotStill n c) (kinds.NotStill m d) h k (still_is n c) (still_is m d))
one_refusal law settings hand list start ts (KindNotStill n c) (HandNotStill d) h k x y = absurd (still_is n c (law.valid settings list (kinds.NotStill n c) k.0 h))
one_refusal law settings hand list start ts (KindNotStill n c) (ElbowMany m) h k x y = absurd (still_is n c (law.valid settings list (kinds.NotStill n c) k.0 h))
one_refusal law settings hand list start ts (HandNotStill c) (KindPlace m d) h k x y = absurd (place_is m d (law.valid settings list (kinds.Place m d) h.0 k))
one_refusal law settings hand list start ts (HandNotStill c) (KindNotStill m d) h k x y = absurd (still_is m d (law.valid settings list (kinds.NotStill m d) h.0 k))
one_refusal law settings hand list start ts (HandNotStill c) (HandNotStill d) h k x y = ap HandNotStill (one_first (λ x y. step (alive hand) x y ≢ alive hand x y) c d h.1 k.1)
one_refusal law settings hand list start ts (HandNotStill c) (ElbowMany m) h k x y = absurd (h.1.is (λ i. k.1.0 i c.x c.y))
one_refusal law settings hand list start ts (ElbowMany n) (KindPlace m d) h k x y = absurd (place_is m d (law.valid settings list (kinds.Place m d) h.0 k))
one_refusal law settings hand list start ts (ElbowMany n) (KindNotStill m d) h k x y = absurd (still_is m d (law.valid settings list (kinds.NotStill m d) h.0 k))
one_refusal law settings hand list start ts (ElbowMany n) (HandNotStill d) h k x y = absurd (k.1.is (λ i. h.1.0 i d.x d.y))
one_refusal law settings hand list start ts (ElbowMany n) (ElbowMany m) h k x y = ap ElbowMany (h.1.1.0 ∙ sym k.1.1.0)
one_refusal law settings hand list start ts Memory f h k x y = absurd (x refl)
one_refusal law settings hand list start ts e Memory h k x y = absurd (y refl)
