-- Where the part that flies off begins: at the least v of what is gone four generations later.
use Rattle.std.proofs.Common.{◌≡◌, ℕ, zero, suc, Bool, true, false, ℤ, pos, ◌+ℤ◌, ◌-ℤ◌, ◌≤ℤ◌, Option, Some, None, IfSome, inl, inr, refl, sym, ap, subst, ◌∙◌, arith}
use Rattle.std.specs.Prelude.{MatchOption, ◌⊎◌}
use Rattle.std.specs.Cmp.{both_ways}
use Rattle.std.proofs.lemmas.Int.{ints}
use Rattle.std.proofs.lemmas.Bool.{and_parts, and_from, or_cases, or_left, true≢false}
use Rattle.life_plane.specs.NumberLaws.{le_from_test, test_from_le, lt_from_test, test_from_lt, cases_below}
use Rattle.life_plane.specs.Plane.{Plane, run, union, shift, same_plane}
use Rattle.life_plane.specs.Strips.{Each, VAtMost}
use Rattle.life_gliders.specs.Beyond.{IsPartOf}
use Rattle.book_parts.specs.Proper.{HasLife}
use Rattle.find_turn.specs.Settled.{ahead, back, FliesOff, HasSettled, IsLeastGone}
use Rattle.find_turn.proofs.Numbers.{up_to}
use Rattle.find_turn.specs.declared.settled.TheConstants.{FLIGHT_MARGIN}

-- ---- what flies off leaves its hindmost cells

-- up to some v no cell is gone four generations later
abbrev pub StaysUpTo : Plane → ℤ → Type 0
StaysUpTo s top = (a b : ℤ) → s a b ≡ true → (a +ℤ b) ≤ℤ top → run 4 s a b ≡ true

-- a cell of the part that flies, that is not gone later, comes from one further left and up
came_from : (s : Plane) (h : FliesOff s) (x y : ℤ) → run 4 s x y ≡ true → h.limit ≤ℤ (x +ℤ y) → ahead h.limit s (x -ℤ pos 1) (y -ℤ pos 1) ≡ true
came_from s h x y later over = elim (or_cases (back h.limit s x y) (shift (pos 1) (pos 1) (ahead h.limit s) x y) (ap (λ (p : Plane). p x y) (sym h.on) ∙ later)) [
  | inl rest ↦ let below = lt_from_test {a = x +ℤ y} {b = h.limit} (and_parts _ _ rest).1 in absurd (omega (arith, ints, below, over))
  | inr flown ↦ flown
]

-- so where no cell is gone there is none of the part that flies
none_below : (s : Plane) (h : FliesOff s) (top : ℤ) → StaysUpTo s top → (k : ℕ) (x y : ℤ) → ahead h.limit s x y ≡ true → (x +ℤ y) ≤ℤ top → (x +ℤ y) ≤ℤ (h.limit +ℤ pos k) → ⊥
none_below s h top stays zero x y live under near =
    let parts = and_parts (s x y) _ live in
    let over = le_from_test {a = h.limit} {b = x +ℤ y} parts.1 in
    let from = came_from s h x y (stays x y parts.0 under) over in
    let far = le_from_test {a = h.limit} {b = (x -ℤ pos 1) +ℤ (y -ℤ pos 1)} (and_parts _ _ from).1 in
    omega (arith, ints, far, near)
none_below s h top stays (suc k) x y live under near =
    let parts = and_parts (s x y) _ live in
    let over = le_from_test {a = h.limit} {b = x +ℤ y} parts.1 in
    let from = came_from s h x y (stays x y parts.0 under) over in
    none_below s h top stays k (x -ℤ pos 1) (y -ℤ pos 1) from (omega (arith, ints, under)) (omega (arith, ints, near))

none_ahead : (s : Plane) (h : FliesOff s) (top : ℤ) → StaysUpTo s top → (x y : ℤ) → ahead h.limit s x y ≡ true → (x +ℤ y) ≤ℤ top → ⊥
none_ahead s h top stays x y live under =
    let k = up_to ((x +ℤ y) -ℤ h.limit) in
    let above = k.1 in
    none_below s h top stays k.0 x y live under (omega (arith, ints, above))

-- where nothing is gone no part flies off
pub none_flies : (s : Plane) → IsPartOf s (run 4 s) → FliesOff s → ⊥
none_flies s part h =
    let x = h.lives.0 in
    let y = h.lives.1.0 in
    none_ahead s h (x +ℤ y) (λ a b live under. part.each a b live) x y h.lives.1.1 (omega (arith, ints))

-- ---- where it begins

-- below the least v of what is gone
stays_below : (s : Plane) (limit : ℤ) → IsLeastGone s (run 4 s) limit → StaysUpTo s (limit -ℤ pos 1)
stays_below s limit g a b live under = lives (run 4 s a b) (λ dead. let over = g.least a b live dead in omega (arith, ints, over, under))
  where
    lives : (here : Bool) → (here ≡ false → ⊥) → here ≡ true
    lives true h = refl
    lives false h = absurd (h refl)

-- the part that flies is no farther back than the first that is gone
not_before : (s : Plane) (h : FliesOff s) (limit : ℤ) → IsLeastGone s (run 4 s) limit → h.limit ≤ℤ limit
not_before s h limit g = elim (cases_below (g.x +ℤ g.y) h.limit) [
  | inl near ↦
      let stays = or_left (back h.limit s g.x g.y) (shift (pos 1) (pos 1) (ahead h.limit s) g.x g.y) (and_from _ _ g.lives (test_from_lt near)) in
      absurd (true≢false (sym (ap (λ (p : Plane). p g.x g.y) h.on ∙ stays) ∙ g.gone))
  | inr far ↦ let here = g.here in omega (arith, ints, far, here)
]

same_ahead : (s : Plane) (h : FliesOff s) (limit : ℤ) → IsLeastGone s (run 4 s) limit → ahead limit s ≡ ahead h.limit s
same_ahead s h limit g =
    let before = not_before s h limit g in
    same_plane _ _ (λ x y. both_ways (ahead limit s x y) (ahead h.limit s x y)
    (λ live. let over = le_from_test {a = limit} {b = x +ℤ y} (and_parts (s x y) _ live).1 in and_from _ _ (and_parts (s x y) _ live).0 (test_from_le {a = h.limit} {b = x +ℤ y} (omega (arith, ints, before, over))))
    (λ live. elim (cases_below (x +ℤ y) limit) [
      | inl near ↦ absurd (none_ahead s h (limit -ℤ pos 1) (stays_below s limit g) x y live (omega (arith, ints, near)))
      | inr far ↦ and_from _ _ (and_parts (s x y) _ live).0 (test_from_le far)
    ]))

same_back : (s : Plane) (h : FliesOff s) (limit : ℤ) → IsLeastGone s (run 4 s) limit → back limit s ≡ back h.limit s
same_back s h limit g =
    let before = not_before s h limit g in
    same_plane _ _ (λ x y. both_ways (back limit s x y) (back h.limit s x y)
    (λ live. elim (cases_below (x +ℤ y) h.limit) [
      | inl near ↦ and_from _ _ (and_parts (s x y) _ live).0 (test_from_lt near)
      | inr far ↦
          let under = lt_from_test {a = x +ℤ y} {b = limit} (and_parts (s x y) _ live).1 in
          absurd (none_ahead s h (limit -ℤ pos 1) (stays_below s limit g) x y (and_from _ _ (and_parts (s x y) _ live).0 (test_from_le far)) (omega (arith, ints, under)))
    ])
    (λ live. let under = lt_from_test {a = x +ℤ y} {b = h.limit} (and_parts (s x y) _ live).1 in and_from _ _ (and_parts (s x y) _ live).0 (test_from_lt {a = x +ℤ y} {b = limit} (omega (arith, ints, before, under)))))

-- so a part flies off from the least v of what is gone, if from any
gap_from_gone : (s : Plane) (h : FliesOff s) (limit : ℤ) → IsLeastGone s (run 4 s) limit → Each (VAtMost (limit -ℤ FLIGHT_MARGIN)) (back limit s)
gap_from_gone s h limit g x y live =
    let v = (h.gap x y (ap (λ (p : Plane). p x y) (sym (same_back s h limit g)) ∙ live)).v in
    let before = not_before s h limit g in
    record { v = omega (arith, ints, v, before) }

flies_from_gone : (s : Plane) (h : FliesOff s) (limit : ℤ) → IsLeastGone s (run 4 s) limit → run 4 s ≡ union (back limit s) (shift (pos 1) (pos 1) (ahead limit s))
flies_from_gone s h limit g =
    let rest = sym (same_back s h limit g) in
    let flies = sym (same_ahead s h limit g) in
    h.on ∙ (λ i. union (rest i) (shift (pos 1) (pos 1) (flies i)))

-- a cell is gone, so the pattern doesn't come back
gone_differs : (s later : Plane) (limit : ℤ) → IsLeastGone s later limit → later ≡ s → ⊥
gone_differs s later limit g same = true≢false (sym g.lives ∙ ap (λ (p : Plane). p g.x g.y) (sym same) ∙ g.gone)

gone_lives : (s later : Plane) (limit : ℤ) → IsLeastGone s later limit → HasLife (ahead limit s)
gone_lives s later limit g = let here = g.here in (g.x, (g.y, and_from _ _ g.lives (test_from_le {a = limit} {b = g.x +ℤ g.y} (omega (arith, ints, here)))))

-- ---- so it is told whether a pattern has settled

-- where nothing is gone
pub settled_when_none : (s later : Plane) → later ≡ run 4 s → IsPartOf s later → HasSettled s → s ≡ later
settled_when_none s later is part (inl same) = sym same ∙ sym is
settled_when_none s later is part (inr flies) = absurd (none_flies s (subst (IsPartOf s) is part) flies)

-- where the rest is not far enough behind
pub not_settled : (s later : Plane) (limit : ℤ) → later ≡ run 4 s → IsLeastGone s later limit → (Each (VAtMost (limit -ℤ FLIGHT_MARGIN)) (back limit s) → ⊥) → HasSettled s → ⊥
not_settled s later limit is g near (inl same) = gone_differs s later limit g (is ∙ same)
not_settled s later limit is g near (inr flies) = near (gap_from_gone s flies limit (subst (λ p. IsLeastGone s p limit) is g))

-- where it is, what would have flown
pub settled_when_flown : (s later : Plane) (limit : ℤ) → later ≡ run 4 s → IsLeastGone s later limit → Each (VAtMost (limit -ℤ FLIGHT_MARGIN)) (back limit s) →
    union (back limit s) (shift (pos 1) (pos 1) (ahead limit s)) ≡ later → HasSettled s
settled_when_flown s later limit is g gap flown = inr (record { limit = limit; lives = gone_lives s later limit g; gap = gap; on = sym is ∙ sym flown })

pub flown_when_settled : (s later : Plane) (limit : ℤ) → later ≡ run 4 s → IsLeastGone s later limit → HasSettled s → union (back limit s) (shift (pos 1) (pos 1) (ahead limit s)) ≡ later
flown_when_settled s later limit is g (inl same) = absurd (gone_differs s later limit g (is ∙ same))
flown_when_settled s later limit is g (inr flies) = sym (flies_from_gone s flies limit (subst (λ p. IsLeastGone s p limit) is g)) ∙ sym is

-- ---- cells looked at one by one

-- a cell that is no longer there has v at least what was found so far
abbrev pub IsNotBefore : Option ℤ → Plane → ℤ → ℤ → Type 0
IsNotBefore None later x y = later x y ≡ true
IsNotBefore (Some limit) later x y = later x y ≡ false → limit ≤ℤ (x +ℤ y)

-- a cell that is no longer there has what was found so far
pub record IsGoneOn (s later : Plane) (limit : ℤ) : Type 0 where
  pub x : ℤ
  pub y : ℤ
  pub lives : s x y ≡ true
  pub gone : later x y ≡ false
  pub here : x +ℤ y ≡ limit

-- less is found
pub lesser_found : (found : Option ℤ) (limit : ℤ) (later : Plane) (x y : ℤ) → IfSome found (λ least. limit ≤ℤ least) → IsNotBefore found later x y → IsNotBefore (Some limit) later x y
lesser_found None limit later x y less before dead = absurd (true≢false (sym before ∙ dead))
lesser_found (Some least) limit later x y less before dead = let over = before dead in omega (arith, ints, less, over)

-- a cell that is still there
pub still_there : (found : Option ℤ) (later : Plane) (x y : ℤ) → later x y ≡ true → IsNotBefore found later x y
still_there None later x y live = live
still_there (Some least) later x y live = λ dead. absurd (true≢false (sym live ∙ dead))

-- what was found is on a cell that is gone, this one or one before it
pub found_on : (s later : Plane) (found : Option ℤ) (limit v x y : ℤ) → s x y ≡ true → later x y ≡ false → v ≡ x +ℤ y → (limit ≡ v) ⊎ (found ≡ Some limit) → IfSome found (IsGoneOn s later) → IsGoneOn s later limit
found_on s later found limit v x y live dead is (inl here) before = record { x = x; y = y; lives = live; gone = dead; here = sym (here ∙ is) }
found_on s later found limit v x y live dead is (inr same) before = subst (λ (o : Option ℤ). IfSome o (IsGoneOn s later)) same before

-- all cells are looked at
pub least_is : (s later : Plane) (found : Option ℤ) → ((x y : ℤ) → s x y ≡ true → IsNotBefore found later x y) → IfSome found (IsGoneOn s later) → MatchOption found (IsPartOf s later) (IsLeastGone s later)
least_is s later None each on = record { each = each }
least_is s later (Some limit) each on = record { x = on.x; y = on.y; lives = on.lives; gone = on.gone; here = on.here; least = each }
