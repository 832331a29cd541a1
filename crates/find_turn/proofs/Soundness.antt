-- What the search says of the turns of a list of delays.
use Rattle.std.proofs.Common.{◌≡◌, true, false, ℕ, ◌-◌, ◌<◌, ◌≤◌, ℤ, pos, ◌≤ℤ◌, List, length, Option, Some, None, Result, Ok, Err, IfOk, sym, ap, subst, ◌∙◌, inl, inr, arith}
use Rattle.std.specs.Prelude.{MatchOption, ◌↔◌}
use Rattle.std.specs.List.{AllByRecursion}
use Rattle.std.specs.Option.{is_some}
use Rattle.std.proofs.lemmas.Bool.{cases_lt}
use Rattle.std.proofs.lemmas.Int.{ints}
use Rattle.life_plane.specs.ListLaws.{each_at}
use Rattle.life_plane.specs.Plane.{Plane, union}
use Rattle.book_parts.specs.Kinds.{kind_plane}
use Rattle.book_parts.specs.Proper.{IsDelay}
use Rattle.book_parts.specs.declared.kind.RawKind.{RawKind}
use Rattle.book_parts.specs.declared.settings.Settings.{Settings}
use Rattle.book_parts.specs.declared.turn.TurnEnd.{TurnEnd}
use Rattle.recipe_turn.specs.GapLaws.{spaced_apart, narrow_not_apart}
use Rattle.recipe_turn.specs.Gaps.{AreApart, IsFirstNarrow}
use Rattle.recipe_turn.specs.Turn.{gliders}
use Rattle.find_turn.specs.Found.{last_delay, IsTried, EndsSoundly, IsLeastTurn, HasNoTurn}
use Rattle.find_turn.specs.Search.{EndsAt, IsFirstEndAt, NeverEnds}
use Rattle.find_turn.specs.declared.found_turn.FoundTurn.{FoundTurn}
use Rattle.find_turn.specs.declared.tried.Tried.{Tried}
use Rattle.find_turn.proofs.Tries.{last_at, spaced}

-- a turn as it begins
abbrev pub begins : Settings → List RawKind → ℕ → List ℤ → Plane
begins settings kinds kind delays = union (kind_plane kinds kind) (gliders settings delays (pos 0))

-- the start of a turn, from its parts
pub start_is : (settings : Settings) (kinds read : List RawKind) (kind : ℕ) (delays : List ℤ) (elbow own start : Plane) → read ≡ kinds → elbow ≡ kind_plane read kind → own ≡ gliders settings delays (pos 0) → start ≡ union elbow own →
    start ≡ begins settings kinds kind delays
start_is settings kinds read kind delays elbow own start same elbow_is own_is is = is ∙ (λ i. union (elbow_is i) (own_is i)) ∙ ap (λ ks. begins settings ks kind delays) same

-- ---- delays

-- the last delay is no less than 0
pub last_from_zero : (delays : List ℤ) → 0 < length delays → AllByRecursion IsDelay delays → pos 0 ≤ℤ last_delay delays
last_from_zero delays some each =
    let here = (each_at IsDelay delays each (length delays - 1) (pos 0) (omega arith)).low in
    let last = last_at delays (length delays - 1) (omega arith) in
    omega (arith, ints, here, last)

-- what a search for a narrow gap says where it finds one
pub narrow_found : (delays : List ℤ) (found : Option ℕ) → true ≡ is_some found → MatchOption found (AreApart delays) (IsFirstNarrow delays) → (place : ℕ) × IsFirstNarrow delays place
narrow_found delays None is h = cc
narrow_found delays (Some place) is h = (place, h)

pub none_narrow : (delays : List ℤ) (found : Option ℕ) → false ≡ is_some found → MatchOption found (AreApart delays) (IsFirstNarrow delays) → AreApart delays
none_narrow delays None is h = h
none_narrow delays (Some place) is h = cc

-- delays that aren't apart have no sound turn
pub narrow_none : (settings : Settings) (kinds : List RawKind) (kind : ℕ) (delays : List ℤ) (place : ℕ) → IsFirstNarrow delays place → HasNoTurn settings kinds kind delays
narrow_none settings kinds kind delays place narrow n leaves tried sound = narrow_not_apart delays place narrow (spaced_apart delays (pos n) sound.sound.gaps)

-- ---- ends

-- what ends in bounds, at a number that is tried, ends soundly
ends_soundly : (settings : Settings) (kinds : List RawKind) (kind : ℕ) (delays : List ℤ) (start : Plane) (n : ℕ) (leaves : TurnEnd) → start ≡ begins settings kinds kind delays → 0 < length delays → AreApart delays →
    IsTried delays n → EndsAt settings kinds delays start n leaves → EndsSoundly settings kinds kind delays n leaves
ends_soundly settings kinds kind delays start n leaves is some apart tried h =
    let there = subst (λ p. EndsAt settings kinds delays p n leaves) is h in
    record {
      leads = there.is.leads;
      sound = record { gaps = spaced delays (pos n) some apart tried.least; ends = there.is.stands; bounds = there.bounds; front = there.is.front };
    }

-- and the other way
ends_at : (settings : Settings) (kinds : List RawKind) (kind : ℕ) (delays : List ℤ) (start : Plane) (n : ℕ) (leaves : TurnEnd) → start ≡ begins settings kinds kind delays → EndsSoundly settings kinds kind delays n leaves →
    EndsAt settings kinds delays start n leaves
ends_at settings kinds kind delays start n leaves is h = subst (λ p. EndsAt settings kinds delays p n leaves) (sym is) (record {
  bounds = h.sound.bounds;
  is = record { leads = h.leads; stands = h.sound.ends; front = h.sound.front };
})

-- ---- what the search finds is what is to be found

-- the numbers that are tried, by their least and their greatest
abbrev pub AreTried : List ℤ → Tried → Type 0
AreTried delays tried = (n : ℕ) → IsTried delays n ↔ ((tried.least ≤ n) × (n ≤ tried.most))

-- and none of them is 0
pub tried_from_one : (delays : List ℤ) (tried : Tried) → pos 0 ≤ℤ last_delay delays → AreTried delays tried → 1 ≤ tried.least
tried_from_one delays tried last numbers = elim (cases_lt 0 tried.least) [
  | inl some ↦ (let one : 1 ≤ tried.least = omega arith in one)
  | inr none ↦ let least = ((numbers 0).1 (none, omega arith)).least in absurd (omega (arith, ints, last, least))
]

least_is : (settings : Settings) (kinds : List RawKind) (kind : ℕ) (delays : List ℤ) (start : Plane) (tried : Tried) (found : FoundTurn) → start ≡ begins settings kinds kind delays → 0 < length delays → AreApart delays →
    AreTried delays tried → IsFirstEndAt settings kinds delays start tried found → IsLeastTurn settings kinds kind delays found
least_is settings kinds kind delays start tried found is some apart numbers h =
    let here = (numbers found.n).1 (h.least, h.most) in
    record {
      tried = here;
      sound = ends_soundly settings kinds kind delays start found.n found.end is some apart here h.ends;
      least = λ n leaves within sound. h.none_before n leaves ((numbers n).0 within).0 (ends_at settings kinds kind delays start n leaves is sound);
      first = λ leaves sound. h.first leaves (ends_at settings kinds kind delays start found.n leaves is sound);
    }

none_is : (settings : Settings) (kinds : List RawKind) (kind : ℕ) (delays : List ℤ) (start : Plane) (tried : Tried) → start ≡ begins settings kinds kind delays → AreTried delays tried →
    NeverEnds settings kinds delays start tried → HasNoTurn settings kinds kind delays
none_is settings kinds kind delays start tried is numbers h n leaves within sound =
    let range = (numbers n).0 within in
    h n leaves range.0 range.1 (ends_at settings kinds kind delays start n leaves is sound)

found_is : (settings : Settings) (kinds : List RawKind) (kind : ℕ) (delays : List ℤ) (start : Plane) (tried : Tried) → start ≡ begins settings kinds kind delays → 0 < length delays → AreApart delays →
    AreTried delays tried → (found : Option FoundTurn) → MatchOption found (NeverEnds settings kinds delays start tried) (IsFirstEndAt settings kinds delays start tried) →
    MatchOption found (HasNoTurn settings kinds kind delays) (IsLeastTurn settings kinds kind delays)
found_is settings kinds kind delays start tried is some apart numbers None h = none_is settings kinds kind delays start tried is numbers h
found_is settings kinds kind delays start tried is some apart numbers (Some found) h = least_is settings kinds kind delays start tried found is some apart numbers h

pub answer_is : (settings : Settings) (kinds : List RawKind) (kind : ℕ) (delays : List ℤ) (start : Plane) (tried : Tried) → start ≡ begins settings kinds kind delays → 0 < length delays → AreApart delays →
    AreTried delays tried → {E : Type 0} (answer : Result (Option FoundTurn) E) →
    IfOk answer (λ found. MatchOption found (NeverEnds settings kinds delays start tried) (IsFirstEndAt settings kinds delays start tried)) →
    IfOk answer (λ found. MatchOption found (HasNoTurn settings kinds kind delays) (IsLeastTurn settings kinds kind delays))
answer_is settings kinds kind delays start tried is some apart numbers (Ok found) h = found_is settings kinds kind delays start tried is some apart numbers found h
answer_is settings kinds kind delays start tried is some apart numbers (Err e) h = h
