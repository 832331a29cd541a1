-- What one candidate adds, by what was found.
use Rattle.std.proofs.Common.{◌≡◌, ℕ, ◌<◌, ◌≤◌, ℤ, List, length, sym, ap, subst, Contains}
use Rattle.std.specs.List.{AllByRecursion}
use Rattle.life_plane.specs.Plane.{Plane}
use Rattle.life_cells.specs.Cells.{Cells, alive}
use Rattle.book_parts.specs.Said.{Said}
use Rattle.book_parts.specs.Limits.{IsCoordinate, IsPlaced, IsName}
use Rattle.book_parts.specs.Proper.{IsDelay, IsProperPlace, IsProperEnd, IsProperKind, entry_names}
use Rattle.book_parts.specs.declared.kind.RawKind.{RawKind}
use Rattle.book_parts.specs.declared.salvo.RawSalvo.{RawSalvo}
use Rattle.book_parts.specs.declared.settings.Settings.{Settings}
use Rattle.book_parts.specs.declared.turn.RawTurn.{RawTurn}
use Rattle.book_parts.specs.declared.turn.TurnEnd.{TurnEnd}
use Rattle.book_parts.specs.declared.turn.TurnEnd.TheVariants.{Close, Move, Emit}
use Rattle.recipe_turn.specs.Checked.{AreValid}
use Rattle.find_order.specs.Fit.{AreLanesOfSalvo, AreDelaysOfTurn}
use Rattle.find_order.specs.declared.candidate.Candidate.TheVariants.{Lanes, Delays}
use Rattle.find_salvo.specs.Salvos.{IsSalvoOutcome, HasNoSalvo}
use Rattle.find_salvo.specs.declared.outcome.Outcome.{Outcome}
use Rattle.find_turn.specs.Found.{IsLeastTurn, HasNoTurn}
use Rattle.find_turn.specs.Standing.{LeadsToKind}
use Rattle.find_turn.specs.declared.found_turn.FoundTurn.{FoundTurn}
use Rattle.recipe_find.specs.Names.{IsNewName}
use Rattle.recipe_find.specs.Adding.{lanes_of, delays_of, known, outcome_of, end_of, AddsSalvo, AddsTurn}
use Rattle.recipe_find.specs.Limited.{IsEndLimited}

-- a list of lanes has one outcome at most
abbrev pub OneOutcome : Type 0
OneOutcome = (hand : Plane) (lanes : List ℤ) (a b : Outcome) → IsSalvoOutcome hand lanes a → IsSalvoOutcome hand lanes b → a ≡ b

-- one turn at most is the least
abbrev pub OneTurn : Type 0
OneTurn = (settings : Settings) (kinds : List RawKind) (kind : ℕ) (delays : List ℤ) (a b : FoundTurn) → AllByRecursion IsProperKind kinds → AreValid settings kinds →
    IsLeastTurn settings kinds kind delays a → IsLeastTurn settings kinds kind delays b → a ≡ b

-- ---- salvos

same_lanes : (lanes : List ℤ) (salvo : RawSalvo) → Lanes lanes ≡ lanes_of salvo → lanes ≡ salvo.lanes
same_lanes lanes salvo e = cc

own_outcome : (book : Said) (number : ℕ) (lanes : List ℤ) (salvo : RawSalvo) → AddsSalvo book number (Lanes lanes) salvo → IsSalvoOutcome (alive book.hand) lanes (outcome_of salvo)
own_outcome book number lanes salvo adds = subst (λ l. IsSalvoOutcome (alive book.hand) l (outcome_of salvo)) (sym (same_lanes lanes salvo adds.lanes)) adds.outcome

-- no outcome was found
pub no_outcome : (book : Said) (number : ℕ) (lanes : List ℤ) (hand : Cells) → hand ≡ book.hand → HasNoSalvo (alive hand) lanes → (salvo : RawSalvo) → AddsSalvo book number (Lanes lanes) salvo → ⊥
no_outcome book number lanes hand same none salvo adds = none (outcome_of salvo) (subst (λ h. IsSalvoOutcome (alive h) lanes (outcome_of salvo)) (sym same) (own_outcome book number lanes salvo adds))

-- one was found that no book may have
pub not_limited : OneOutcome → (book : Said) (number : ℕ) (lanes : List ℤ) (hand : Cells) (outcome : Outcome) → hand ≡ book.hand → IsSalvoOutcome (alive hand) lanes outcome →
    (IsPlaced (alive outcome.product) → IsProperPlace outcome.hand → ⊥) → (salvo : RawSalvo) → AddsSalvo book number (Lanes lanes) salvo → ⊥
not_limited law book number lanes hand outcome same is other salvo adds =
    let one : outcome ≡ outcome_of salvo = law (alive book.hand) lanes outcome (outcome_of salvo) (subst (λ h. IsSalvoOutcome (alive h) lanes outcome) same is) (own_outcome book number lanes salvo adds) in
    other (subst (λ (o : Outcome). IsPlaced (alive o.product)) (sym one) adds.proper.product) (subst (λ (o : Outcome). IsProperPlace o.hand) (sym one) adds.proper.hand)

-- its name is too long
pub salvo_unnamed : (book : Said) (number : ℕ) (lanes : List ℤ) → ((name : List ℕ) → IsNewName (entry_names book) number name → IsName name → ⊥) → (salvo : RawSalvo) → AddsSalvo book number (Lanes lanes) salvo → ⊥
salvo_unnamed book number lanes none salvo adds = none salvo.name adds.name adds.proper.name

pub adds_salvo : (book : Said) (number : ℕ) (lanes copied : List ℤ) (hand : Cells) (outcome : Outcome) (name : List ℕ) → AreLanesOfSalvo lanes → (Contains (known book) (Lanes lanes) → ⊥) → hand ≡ book.hand →
    IsSalvoOutcome (alive hand) lanes outcome → IsPlaced (alive outcome.product) → IsProperPlace outcome.hand → IsNewName (entry_names book) number name → IsName name → copied ≡ lanes →
    AddsSalvo book number (Lanes lanes) (record { name = name; lanes = copied; product = outcome.product; hand = outcome.hand })
adds_salvo book number lanes copied hand outcome name fit unknown same is product place new proper copy = record {
  lanes = ap Lanes (sym copy);
  unknown = unknown;
  outcome = subst (λ l. IsSalvoOutcome (alive book.hand) l outcome) (sym copy) (subst (λ h. IsSalvoOutcome (alive h) lanes outcome) same is);
  name = new;
  proper = record {
    name = proper;
    some = subst (λ l. 0 < length l) (sym copy) fit.some;
    few = subst (λ l. length l ≤ 64) (sym copy) fit.few;
    lanes = subst (AllByRecursion IsCoordinate) (sym copy) fit.each;
    product = product;
    hand = place;
  };
}

-- ---- turns

same_kind : (kind : ℕ) (delays : List ℤ) (turn : RawTurn) → Delays kind delays ≡ delays_of turn → kind ≡ turn.kind
same_kind kind delays turn e = cc

same_delays : (kind : ℕ) (delays : List ℤ) (turn : RawTurn) → Delays kind delays ≡ delays_of turn → delays ≡ turn.delays
same_delays kind delays turn e = cc

own_turn : (book : Said) (number kind : ℕ) (delays : List ℤ) (turn : RawTurn) → AddsTurn book number (Delays kind delays) turn → IsLeastTurn book.settings book.kinds kind delays (end_of turn)
own_turn book number kind delays turn adds =
    subst (λ d. IsLeastTurn book.settings book.kinds kind d (end_of turn)) (sym (same_delays kind delays turn adds.delays))
    (subst (λ k. IsLeastTurn book.settings book.kinds k turn.delays (end_of turn)) (sym (same_kind kind delays turn adds.delays)) adds.least)

-- a delay is too long
pub too_long : (book : Said) (number kind : ℕ) (delays : List ℤ) → (AllByRecursion IsDelay delays → ⊥) → (turn : RawTurn) → AddsTurn book number (Delays kind delays) turn → ⊥
too_long book number kind delays long turn adds = long (subst (AllByRecursion IsDelay) (sym (same_delays kind delays turn adds.delays)) adds.proper.delays)

-- no turn was found
pub no_turn : (book : Said) (number kind : ℕ) (delays : List ℤ) (settings : Settings) (kinds : List RawKind) → settings ≡ book.settings → kinds ≡ book.kinds → HasNoTurn settings kinds kind delays →
    (turn : RawTurn) → AddsTurn book number (Delays kind delays) turn → ⊥
no_turn book number kind delays settings kinds same_settings same_kinds none turn adds =
    let own = subst (λ s. IsLeastTurn s kinds kind delays (end_of turn)) (sym same_settings) (subst (λ k. IsLeastTurn book.settings k kind delays (end_of turn)) (sym same_kinds) (own_turn book number kind delays turn adds)) in
    none turn.n turn.end own.tried own.sound

limited : (kinds : ℕ) (leaves : TurnEnd) → IsProperEnd kinds leaves → IsEndLimited leaves
limited kinds Close h = tt
limited kinds (Move kind advance) h = h.1
limited kinds (Emit kind advance lane j) h = h.1

proper_end : (kinds : ℕ) (leaves : TurnEnd) → LeadsToKind kinds leaves → IsEndLimited leaves → IsProperEnd kinds leaves
proper_end kinds Close h k = tt
proper_end kinds (Move kind advance) h k = (h, k)
proper_end kinds (Emit kind advance lane j) h k = (h, k)

-- the turn in the words of its book
least_in : (book : Said) (kind : ℕ) (delays : List ℤ) (settings : Settings) (kinds : List RawKind) (found : FoundTurn) → settings ≡ book.settings → kinds ≡ book.kinds → IsLeastTurn settings kinds kind delays found →
    IsLeastTurn book.settings book.kinds kind delays found
least_in book kind delays settings kinds found same_settings same_kinds is = subst (λ k. IsLeastTurn book.settings k kind delays found) same_kinds (subst (λ s. IsLeastTurn s kinds kind delays found) same_settings is)

-- one was found that no book may have
pub not_limited_turn : OneTurn → (book : Said) (number kind : ℕ) (delays : List ℤ) (settings : Settings) (kinds : List RawKind) (found : FoundTurn) → AllByRecursion IsProperKind book.kinds → AreValid book.settings book.kinds →
    settings ≡ book.settings → kinds ≡ book.kinds → IsLeastTurn settings kinds kind delays found → (IsEndLimited found.end → ⊥) → (turn : RawTurn) → AddsTurn book number (Delays kind delays) turn → ⊥
not_limited_turn law book number kind delays settings kinds found proper valid same_settings same_kinds is other turn adds =
    let one : found ≡ end_of turn = law book.settings book.kinds kind delays found (end_of turn) proper valid (least_in book kind delays settings kinds found same_settings same_kinds is) (own_turn book number kind delays turn adds) in
    other (subst (λ (f : FoundTurn). IsEndLimited f.end) (sym one) (limited (length book.kinds) turn.end adds.proper.leaves))

-- its name is too long
pub turn_unnamed : (book : Said) (number kind : ℕ) (delays : List ℤ) → ((name : List ℕ) → IsNewName (entry_names book) number name → IsName name → ⊥) → (turn : RawTurn) → AddsTurn book number (Delays kind delays) turn → ⊥
turn_unnamed book number kind delays none turn adds = none turn.name adds.name adds.proper.name

pub adds_turn : (book : Said) (number kind : ℕ) (delays copied : List ℤ) (settings : Settings) (kinds : List RawKind) (found : FoundTurn) (name : List ℕ) → AreDelaysOfTurn (length book.kinds) kind delays → AllByRecursion IsDelay delays →
    (Contains (known book) (Delays kind delays) → ⊥) → settings ≡ book.settings → kinds ≡ book.kinds → IsLeastTurn settings kinds kind delays found → IsEndLimited found.end →
    IsNewName (entry_names book) number name → IsName name → copied ≡ delays →
    AddsTurn book number (Delays kind delays) (record { name = name; kind = kind; end = found.end; n = found.n; delays = copied })
adds_turn book number kind delays copied settings kinds found name fit short unknown same_settings same_kinds is end_is new proper copy =
    let least = least_in book kind delays settings kinds found same_settings same_kinds is in
    record {
      delays = ap (Delays kind) (sym copy);
      unknown = unknown;
      least = subst (λ d. IsLeastTurn book.settings book.kinds kind d found) (sym copy) least;
      name = new;
      proper = record {
        name = proper;
        kind = fit.number;
        leaves = proper_end (length book.kinds) found.end least.sound.leads end_is;
        short = least.tried.longest;
        some = subst (λ d. 0 < length d) (sym copy) fit.some;
        few = subst (λ d. length d ≤ 64) (sym copy) fit.few;
        delays = subst (AllByRecursion IsDelay) (sym copy) short;
      };
    }
