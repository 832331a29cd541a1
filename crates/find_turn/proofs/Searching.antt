-- A turn generation by generation, until it comes to an end or can't any more.
use Rattle.std.proofs.Common.{◌≡◌, ℕ, ◌+◌, ◌-◌, ◌^◌, ◌≤◌, Bool, true, false, ℤ, List, Option, Some, None, IfSome, IfNone, inl, inr, sym, ap, subst, ◌∙◌, arith}
use Rattle.std.specs.Prelude.{◌≢◌, MatchOption}
use Rattle.std.specs.Bool.{MatchBool}
use Rattle.std.proofs.lemmas.Bool.{cases_lt}
use Rattle.life_plane.specs.EvolveLaws.{still_run, run-add}
use Rattle.life_plane.specs.Plane.{Plane, run, step, IsStill}
use Rattle.life_cells.specs.Boxes.{IsInRange, IsLeastBox, IsBoxOf}
use Rattle.life_cells.specs.BoxLaws.{range_run, range_wider}
use Rattle.life_cells.specs.Cells.{Cells, alive, empty}
use Rattle.life_cells.specs.Laws.{alive-empty}
use Rattle.life_cells.specs.declared.bounds.Bounds.{Bounds}
use Rattle.book_parts.specs.declared.kind.RawKind.{RawKind}
use Rattle.book_parts.specs.declared.limits.TheConstants.{LONGEST_TURN}
use Rattle.book_parts.specs.declared.settings.Settings.{Settings}
use Rattle.book_parts.specs.declared.turn.TurnEnd.{TurnEnd}
use Rattle.recipe_turn.specs.Bounds.{KeepsBoth}
use Rattle.recipe_turn.specs.Turn.{KeepsBounds, IsAheadOrOwn}
use Rattle.find_turn.specs.Search.{IsFirstEndAt, NeverEnds}
use Rattle.find_turn.specs.Standing.{IsEnd, IsFirstEnd, IsNoEnd}
use Rattle.find_turn.specs.declared.tried.Tried.{Tried}

-- ---- ranges and boxes

-- how far the cells of a generation lie
pub course_range : (start s : Plane) (t n : ℕ) → IsInRange (2 ^ 40) start → t ≤ LONGEST_TURN → s ≡ run t start → 2 ^ 41 ≤ n → IsInRange n s
course_range start s t n h le same wide = subst (IsInRange n) (sym same) (range_wider (2 ^ 40 + t) n _ (range_run t (2 ^ 40) start h) (omega arith))

-- the box of a set, or none
pub box_of_set : (box : Option Bounds) (s : Cells) → IfSome box (λ b. IsLeastBox b (alive s)) → IfNone box (s ≡ empty) → IsBoxOf box (alive s)
box_of_set None s some none = ap alive none ∙ alive-empty
box_of_set (Some b) s some none = some

-- ---- bounds

-- the start keeps the bounds
pub kept_first : (settings : Settings) (delays : List ℤ) (start : Plane) → KeepsBoth settings delays 0 start → KeepsBounds settings delays start 0
kept_first settings delays start both = record {
  reach = λ t x y le live. let same : t ≡ 0 = omega arith in both.reach x y (ap (λ k. run k start x y) (sym same) ∙ live);
  tail = λ t x y le live.
      let same : t ≡ 0 = omega arith in
      subst (λ k. IsAheadOrOwn settings delays k x y) (sym same) (both.tail x y (ap (λ k. run k start x y) (sym same) ∙ live));
}

-- and so does one generation more
pub kept_more : (settings : Settings) (delays : List ℤ) (start s : Plane) (n : ℕ) → KeepsBounds settings delays start n → s ≡ run (n + 1) start → KeepsBoth settings delays (n + 1) s →
    KeepsBounds settings delays start (n + 1)
kept_more settings delays start s n before is both = record {
  reach = λ t x y le live. elim (cases_lt n t) [
    | inl lt ↦ let same : t ≡ n + 1 = omega arith in both.reach x y (ap (λ (p : Plane). p x y) is ∙ ap (λ k. run k start x y) (sym same) ∙ live)
    | inr ge ↦ before.reach t x y ge live
  ];
  tail = λ t x y le live. elim (cases_lt n t) [
    | inl lt ↦
        let same : t ≡ n + 1 = omega arith in
        subst (λ k. IsAheadOrOwn settings delays k x y) (sym same) (both.tail x y (ap (λ (p : Plane). p x y) is ∙ ap (λ k. run k start x y) (sym same) ∙ live))
    | inr ge ↦ before.tail t x y ge live
  ];
}

-- bounds that are kept are kept by each generation
both_kept : (settings : Settings) (delays : List ℤ) (start s : Plane) (t n : ℕ) → KeepsBounds settings delays start n → t ≤ n → s ≡ run t start → KeepsBoth settings delays t s
both_kept settings delays start s t n bounds le is = record {
  reach = λ x y live. bounds.reach t x y le (ap (λ (p : Plane). p x y) (sym is) ∙ live);
  tail = λ x y live. bounds.tail t x y le (ap (λ (p : Plane). p x y) (sym is) ∙ live);
}

-- ---- ends

-- none of the generations that are tried, up to this one, is the end of a turn
abbrev pub NoneYet : Settings → List RawKind → Plane → ℕ → ℕ → Type 0
NoneYet settings kinds start least n = (m : ℕ) → least ≤ m → m ≤ n → IsNoEnd settings kinds (run m start)

pub none_first : (settings : Settings) (kinds : List RawKind) (start : Plane) (least : ℕ) → 1 ≤ least → NoneYet settings kinds start least 0
none_first settings kinds start least some m from to = absurd (omega arith)

pub none_more : (settings : Settings) (kinds : List RawKind) (start s : Plane) (least n : ℕ) → NoneYet settings kinds start least n → s ≡ run (n + 1) start → (least ≤ n + 1 → IsNoEnd settings kinds s) →
    NoneYet settings kinds start least (n + 1)
none_more settings kinds start s least n before is here m from to leaves h = elim (cases_lt n m) [
  | inl lt ↦
      let same : m ≡ n + 1 = omega arith in
      let late : least ≤ n + 1 = omega arith in
      here late leaves (subst (λ p. IsEnd settings kinds p leaves) (ap (λ k. run k start) same ∙ sym is) h)
  | inr ge ↦ before m from ge leaves h
]

-- a step that changes no cell says that a generation is still
pub still_now : (start : Plane) (s next : Cells) (n : ℕ) (changed : Bool) → alive s ≡ run n start → alive next ≡ step (alive s) → changed ≡ false → MatchBool changed (next ≢ s) (next ≡ s) → IsStill (run n start)
still_now start s next n true same is still h = cc
still_now start s next n false same is still h = ap step (sym same) ∙ sym is ∙ ap alive h ∙ same

-- a generation that is still is all that comes
pub never_when_still : (settings : Settings) (kinds : List RawKind) (delays : List ℤ) (start : Plane) (tried : Tried) (n : ℕ) → NoneYet settings kinds start tried.least n → tried.least ≤ n → IsStill (run n start) →
    NeverEnds settings kinds delays start tried
never_when_still settings kinds delays start tried n none late still m leaves from to h = elim (cases_lt n m) [
  | inl lt ↦
      let split : (m - n) + n ≡ m = omega arith in
      let same : run m start ≡ run n start = ap (λ k. run k start) (sym split) ∙ run-add (m - n) n start ∙ still_run (run n start) still (m - n) in
      none n late (omega arith) leaves (subst (λ p. IsEnd settings kinds p leaves) same h.is)
  | inr ge ↦ none m from ge leaves h.is
]

-- a generation that breaks the bounds breaks them for all that come
pub never_when_broken : (settings : Settings) (kinds : List RawKind) (delays : List ℤ) (start s : Plane) (tried : Tried) (n : ℕ) → NoneYet settings kinds start tried.least n → s ≡ run (n + 1) start →
    (KeepsBoth settings delays (n + 1) s → ⊥) → NeverEnds settings kinds delays start tried
never_when_broken settings kinds delays start s tried n none is broken m leaves from to h = elim (cases_lt n m) [
  | inl lt ↦ broken (both_kept settings delays start s (n + 1) m h.bounds (omega arith) is)
  | inr ge ↦ none m from ge leaves h.is
]

pub never_at_all : (settings : Settings) (kinds : List RawKind) (delays : List ℤ) (start : Plane) (tried : Tried) (n : ℕ) → NoneYet settings kinds start tried.least n → tried.most ≤ n →
    NeverEnds settings kinds delays start tried
never_at_all settings kinds delays start tried n none all m leaves from to h = none m from (omega arith) leaves h.is

-- the first end
pub found_end : (settings : Settings) (kinds : List RawKind) (delays : List ℤ) (start s : Plane) (tried : Tried) (n : ℕ) (leaves : TurnEnd) → NoneYet settings kinds start tried.least n → s ≡ run (n + 1) start →
    KeepsBounds settings delays start (n + 1) → tried.least ≤ n + 1 → n + 1 ≤ tried.most → IsFirstEnd settings kinds s leaves → IsFirstEndAt settings kinds delays start tried (record { n = n + 1; end = leaves })
found_end settings kinds delays start s tried n leaves none is bounds late early here = record {
  least = late;
  most = early;
  ends = record { bounds = bounds; is = subst (λ p. IsEnd settings kinds p leaves) is here.is };
  none_before = λ m other from h. elim (cases_lt n m) [ inl lt ↦ (let le : n + 1 ≤ m = omega arith in le) | inr ge ↦ absurd (none m from ge other h.is) ];
  first = λ other h. here.first other (subst (λ p. IsEnd settings kinds p other) (sym is) h.is);
}

-- ---- what was found at a generation

pub found_some : (settings : Settings) (kinds : List RawKind) (s : Plane) (found : Option TurnEnd) (leaves : TurnEnd) → found ≡ Some leaves → MatchOption found (IsNoEnd settings kinds s) (IsFirstEnd settings kinds s) →
    IsFirstEnd settings kinds s leaves
found_some settings kinds s found leaves is h = subst (λ o. MatchOption o (IsNoEnd settings kinds s) (IsFirstEnd settings kinds s)) is h

pub found_none : (settings : Settings) (kinds : List RawKind) (s : Plane) (found : Option TurnEnd) → found ≡ None → MatchOption found (IsNoEnd settings kinds s) (IsFirstEnd settings kinds s) → IsNoEnd settings kinds s
found_none settings kinds s found is h = subst (λ o. MatchOption o (IsNoEnd settings kinds s) (IsFirstEnd settings kinds s)) is h
