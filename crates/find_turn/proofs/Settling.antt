-- A pattern that has settled, and is not the end of a turn, comes to none any more.
use Rattle.std.proofs.Common.{◌≡◌, ℕ, ◌+◌, ◌-◌, ◌^◌, ◌%◌, ◌≤◌, true, ℤ, pos, ◌+ℤ◌, ◌-ℤ◌, ◌≤ℤ◌, List, inl, inr, sym, ap, subst, ◌∙◌, arith}
use Rattle.std.proofs.lemmas.Int.{ints}
use Rattle.std.proofs.lemmas.Bool.{and_parts, cases_lt, or_right}
use Rattle.life_plane.specs.EvolveLaws.{run-add}
use Rattle.life_plane.specs.NumberLaws.{le_from_test}
use Rattle.life_plane.specs.Plane.{Plane, run, shift}
use Rattle.life_cells.specs.Boxes.{IsInRange}
use Rattle.life_cells.specs.BoxLaws.{range_run}
use Rattle.book_parts.specs.declared.kind.RawKind.{RawKind}
use Rattle.book_parts.specs.declared.settings.Settings.{Settings}
use Rattle.recipe_turn.specs.Checked.{AreValid}
use Rattle.find_turn.specs.Search.{NeverEnds}
use Rattle.find_turn.specs.Settled.{ahead, back, FliesOff, HasSettled, StopsWhenSettled}
use Rattle.find_turn.specs.Standing.{IsEnd, IsNoEnd}
use Rattle.find_turn.specs.declared.search.TheConstants.{BETWEEN_LOOKS}
use Rattle.find_turn.specs.declared.tried.Tried.{Tried}
use Rattle.find_turn.proofs.Flying.{fours, fours_is, flown, comes_back}
use Rattle.find_turn.proofs.Lasting.{end_lasts, end_stays_near}
use Rattle.find_turn.proofs.Numbers.{up_to}
use Rattle.find_turn.proofs.Searching.{NoneYet}

-- a later generation, from an earlier and from one between
through : (start : Plane) (n m i : ℕ) → m ≤ fours i + n → run (fours i) (run n start) ≡ run ((fours i + n) - m) (run m start)
through start n m i le =
    let split : ((fours i + n) - m) + m ≡ fours i + n = omega arith in
    sym (run-add (fours i) n start) ∙ ap (λ k. run k start) (sym split) ∙ run-add ((fours i + n) - m) m start

-- one that comes back
no_end_coming_back : (settings : Settings) (kinds : List RawKind) → AreValid settings kinds → (start : Plane) (n m : ℕ) → n ≤ m → run 4 (run n start) ≡ run n start → IsNoEnd settings kinds (run n start) →
    IsNoEnd settings kinds (run m start)
no_end_coming_back settings kinds valid start n m le same none leaves h =
    let is = fours_is m in
    let enough : m ≤ fours m + n = omega arith in
    let later = end_lasts settings kinds valid (run m start) leaves h ((fours m + n) - m) in
    none later.0 (subst (λ p. IsEnd settings kinds p later.0) (sym (through start n m m enough) ∙ comes_back (run n start) same m) later.1)

-- one of which a part flies off
no_end_flying : (settings : Settings) (kinds : List RawKind) → AreValid settings kinds → (far : ℕ) (start : Plane) (n m : ℕ) → IsInRange far start → n ≤ m → FliesOff (run n start) → IsNoEnd settings kinds (run m start)
no_end_flying settings kinds valid far start n m range le flies leaves h =
    let s = run n start in
    let x = flies.lives.0 in
    let y = flies.lives.1.0 in
    let v : flies.limit ≤ℤ (x +ℤ y) = le_from_test {a = flies.limit} {b = x +ℤ y} (and_parts _ _ flies.lives.1.1).1 in
    let reach = up_to ((pos (far + m) +ℤ pos (far + m) +ℤ pos 4) -ℤ flies.limit) in
    let above = reach.1 in
    let i : ℕ = m + reach.0 in
    let is = fours_is i in
    let enough : m ≤ fours i + n = omega arith in
    let back_x : (x +ℤ pos i) -ℤ pos i ≡ x = omega (arith, ints) in
    let back_y : (y +ℤ pos i) -ℤ pos i ≡ y = omega (arith, ints) in
    let there : shift (pos i) (pos i) (ahead flies.limit s) (x +ℤ pos i) (y +ℤ pos i) ≡ true = rw (back_x, back_y) flies.lives.1.1 in
    let live : run ((fours i + n) - m) (run m start) (x +ℤ pos i) (y +ℤ pos i) ≡ true =
    ap (λ (p : Plane). p (x +ℤ pos i) (y +ℤ pos i)) (sym (through start n m i enough) ∙ flown s flies i)
    ∙ or_right (back flies.limit s (x +ℤ pos i) (y +ℤ pos i)) (shift (pos i) (pos i) (ahead flies.limit s) (x +ℤ pos i) (y +ℤ pos i)) there in
    let near = end_stays_near settings kinds valid (far + m) (run m start) (range_run m far start range) leaves h ((fours i + n) - m) (x +ℤ pos i) (y +ℤ pos i) live in
    too_far far m reach.0 flies.limit x y v above near
  where
    too_far : (far m k : ℕ) (limit x y : ℤ) → limit ≤ℤ (x +ℤ y) → ((pos (far + m) +ℤ pos (far + m) +ℤ pos 4) -ℤ limit) ≤ℤ pos k → ((x +ℤ pos (m + k)) +ℤ (y +ℤ pos (m + k))) ≤ℤ (pos (far + m) +ℤ pos (far + m) +ℤ pos 3) → ⊥
    too_far far m k limit x y v above near = omega (arith, ints, v, above, near)

-- neither comes to an end any more
pub never_when_settled : (settings : Settings) (kinds : List RawKind) → AreValid settings kinds → (delays : List ℤ) (start s : Plane) (tried : Tried) (n : ℕ) → IsInRange (2 ^ 40) start →
    NoneYet settings kinds start tried.least n → tried.least ≤ n → s ≡ run n start → HasSettled s → NeverEnds settings kinds delays start tried
never_when_settled settings kinds valid delays start s tried n range none late is settled m leaves from to h = elim (cases_lt n m) [
  | inl lt ↦ elim (subst HasSettled is settled) [
    | inl same ↦ no_end_coming_back settings kinds valid start n m (omega arith) same (none n late (omega arith)) leaves h.is
    | inr flies ↦ no_end_flying settings kinds valid (2 ^ 40) start n m range (omega arith) flies leaves h.is
  ]
  | inr ge ↦ none m from ge leaves h.is
]

-- ---- where it is looked whether a pattern has settled

-- none of the generations up to this one at which that is looked at has
abbrev pub NoneSettled : Plane → ℕ → ℕ → Type 0
NoneSettled start least n = (m : ℕ) → least ≤ m → m ≤ n → m % BETWEEN_LOOKS ≡ 0 → HasSettled (run m start) → ⊥

pub settled_first : (start : Plane) (least : ℕ) → 1 ≤ least → NoneSettled start least 0
settled_first start least some m from to look settled = absurd (omega arith)

pub settled_more : (start : Plane) (least n : ℕ) → NoneSettled start least n → (least ≤ n + 1 → (n + 1) % BETWEEN_LOOKS ≡ 0 → HasSettled (run (n + 1) start) → ⊥) → NoneSettled start least (n + 1)
settled_more start least n before here m from to look settled = elim (cases_lt n m) [
  | inl lt ↦
      let same : m ≡ n + 1 = omega arith in
      let late : least ≤ n + 1 = omega arith in
      here late (subst (λ k. k % BETWEEN_LOOKS ≡ 0) same look) (subst (λ k. HasSettled (run k start)) same settled)
  | inr ge ↦ before m from ge look settled
]

-- so a search that makes one generation more makes none after one that has
pub stops : (start : Plane) (least n before after : ℕ) → NoneSettled start least n → after ≤ before + (n + 1) → StopsWhenSettled start least before after
stops start least n before after none made m from look settled = elim (cases_lt n m) [
  | inl lt ↦ omega arith
  | inr ge ↦ absurd (none m from ge look settled)
]
