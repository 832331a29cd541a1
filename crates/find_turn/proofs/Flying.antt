-- A part of a pattern that flies off goes on flying, and the rest comes back every four generations.
use Rattle.std.proofs.Common.{◌≡◌, ℕ, zero, suc, ◌+◌, ◌*◌, true, ℤ, pos, ◌+ℤ◌, ◌-ℤ◌, refl, inl, inr, sym, ap, ◌∙◌, arith}
use Rattle.std.specs.Cmp.{both_ways}
use Rattle.std.proofs.lemmas.Int.{ints}
use Rattle.std.proofs.lemmas.Bool.{and_parts, and_from, or_cases, or_left, or_right}
use Rattle.life_plane.specs.Apart.{Apart, StayApart}
use Rattle.life_plane.specs.EvolveLaws.{run-add, run_union, run_shift}
use Rattle.life_plane.specs.NumberLaws.{le_from_test, test_from_le, test_from_lt, cases_below}
use Rattle.life_plane.specs.Plane.{Plane, run, union, shift, same_plane}
use Rattle.life_plane.specs.PlaneLaws.{shift_none}
use Rattle.life_plane.specs.Strips.{Each, VAtMost, VAtLeast}
use Rattle.life_plane.specs.TrackLaws.{shift-shift}
use Rattle.life_cells.specs.BoxLaws.{near_live}
use Rattle.find_turn.specs.Settled.{ahead, back, FliesOff}
use Rattle.find_turn.specs.declared.settled.TheConstants.{FLIGHT_MARGIN}

-- ---- v

-- five between their v keep two planes apart
apart_by_v : (limit : ℤ) (s t : Plane) → Each (VAtMost limit) s → Each (VAtLeast (limit +ℤ pos 5)) t → Apart s t
apart_by_v limit s t hs ht = record {
  far = λ x y a b p q w.
      let low = (hs x y p).v in let high = (ht a b q).v in let r = w.right in let l = w.left in let d = w.below in let u = w.above in omega (arith, ints);
}

-- in a generation v grows by two at most
at_most_runs : (k : ℕ) (limit : ℤ) (s : Plane) → Each (VAtMost limit) s → Each (VAtMost (limit +ℤ pos (2 * k))) (run k s)
at_most_runs zero limit s h x y live = let v = (h x y live).v in record { v = omega (arith, ints, v) }
at_most_runs (suc k) limit s h x y live =
    let near = near_live (run k s) x y live in
    let v = (at_most_runs k limit s h near.a near.b near.lives).v in
    let r = near.near.right in let l = near.near.left in let d = near.near.below in let u = near.near.above in
    record { v = omega (arith, ints, v, r, l, d, u) }

at_least_runs : (k : ℕ) (limit : ℤ) (s : Plane) → Each (VAtLeast limit) s → Each (VAtLeast (limit -ℤ pos (2 * k))) (run k s)
at_least_runs zero limit s h x y live = let v = (h x y live).v in record { v = omega (arith, ints, v) }
at_least_runs (suc k) limit s h x y live =
    let near = near_live (run k s) x y live in
    let v = (at_least_runs k limit s h near.a near.b near.lives).v in
    let r = near.near.right in let l = near.near.left in let d = near.near.below in let u = near.near.above in
    record { v = omega (arith, ints, v, r, l, d, u) }

-- planes that are parted by 21 stay apart for four generations
stay_apart : (limit : ℤ) (s t : Plane) → Each (VAtMost (limit -ℤ FLIGHT_MARGIN)) s → Each (VAtLeast limit) t → StayApart 4 s t
stay_apart limit s t hs ht = record {
  each = λ k lt. apart_by_v ((limit -ℤ FLIGHT_MARGIN) +ℤ pos (2 * k)) (run k s) (run k t) (at_most_runs k (limit -ℤ FLIGHT_MARGIN) s hs)
      (λ x y live. let v = (at_least_runs k limit t ht x y live).v in record { v = omega (arith, ints, v, lt) });
}

-- ---- parts by v

-- the parts of a union with a limit between them
lower : (limit : ℤ) (p q r s : Plane) → Each (VAtMost limit) p → Each (VAtMost limit) r → Each (VAtLeast (limit +ℤ pos 1)) q → Each (VAtLeast (limit +ℤ pos 1)) s → union p q ≡ union r s → (x y : ℤ) → p x y ≡ true → r x y ≡ true
lower limit p q r s hp hr hq hs same x y live = elim (or_cases (r x y) (s x y) (ap (λ (z : Plane). z x y) (sym same) ∙ or_left (p x y) (q x y) live)) [
  | inl l ↦ l
  | inr far ↦ let near = (hp x y live).v in let over = (hs x y far).v in absurd (omega (arith, ints, near, over))
]

upper : (limit : ℤ) (p q r s : Plane) → Each (VAtMost limit) p → Each (VAtMost limit) r → Each (VAtLeast (limit +ℤ pos 1)) q → Each (VAtLeast (limit +ℤ pos 1)) s → union p q ≡ union r s → (x y : ℤ) → q x y ≡ true → s x y ≡ true
upper limit p q r s hp hr hq hs same x y live = elim (or_cases (r x y) (s x y) (ap (λ (z : Plane). z x y) (sym same) ∙ or_right (p x y) (q x y) live)) [
  | inl near ↦ let below = (hr x y near).v in let over = (hq x y live).v in absurd (omega (arith, ints, below, over))
  | inr far ↦ far
]

-- ---- a pattern that flies off

behind_limit : (s : Plane) (h : FliesOff s) → Each (VAtLeast h.limit) (ahead h.limit s)
behind_limit s h x y live = record { v = le_from_test {a = h.limit} {b = x +ℤ y} (and_parts _ _ live).1 }

both : (limit : ℤ) (s : Plane) → s ≡ union (back limit s) (ahead limit s)
both limit s = same_plane _ _ (λ x y. both_ways (s x y) (union (back limit s) (ahead limit s) x y)
    (λ live. elim (cases_below (x +ℤ y) limit) [
      | inl near ↦ or_left (back limit s x y) (ahead limit s x y) (and_from _ _ live (test_from_lt near))
      | inr far ↦ or_right (back limit s x y) (ahead limit s x y) (and_from _ _ live (test_from_le far))
    ])
    (λ h. elim (or_cases (back limit s x y) (ahead limit s x y) h) [ inl l ↦ (and_parts _ _ l).0 | inr r ↦ (and_parts _ _ r).0 ]))

record Parts (s : Plane) (h : FliesOff s) : Type 0 where
  rest : run 4 (back h.limit s) ≡ back h.limit s
  flies : run 4 (ahead h.limit s) ≡ shift (pos 1) (pos 1) (ahead h.limit s)

-- each part for itself
parts : (s : Plane) (h : FliesOff s) → Parts s h
parts s h =
    let r = back h.limit s in
    let f = ahead h.limit s in
    let on = shift (pos 1) (pos 1) f in
    let middle = h.limit -ℤ pos 13 in
    let after : union (run 4 r) (run 4 f) ≡ union r on = sym (run_union 4 r f (stay_apart h.limit r f h.gap (behind_limit s h))) ∙ ap (run 4) (sym (both h.limit s)) ∙ h.on in
    let r_on : Each (VAtMost middle) (run 4 r) = λ x y live. let v = (at_most_runs 4 (h.limit -ℤ FLIGHT_MARGIN) r h.gap x y live).v in record { v = omega (arith, ints, v) } in
    let r_now : Each (VAtMost middle) r = λ x y live. let v = (h.gap x y live).v in record { v = omega (arith, ints, v) } in
    let f_on : Each (VAtLeast (middle +ℤ pos 1)) (run 4 f) = λ x y live. let v = (at_least_runs 4 h.limit f (behind_limit s h) x y live).v in record { v = omega (arith, ints, v) } in
    let f_now : Each (VAtLeast (middle +ℤ pos 1)) on = λ x y live. let v = (behind_limit s h (x -ℤ pos 1) (y -ℤ pos 1) live).v in record { v = omega (arith, ints, v) } in
    record {
      rest = same_plane _ _ (λ x y. both_ways (run 4 r x y) (r x y) (lower middle (run 4 r) (run 4 f) r on r_on r_now f_on f_now after x y) (lower middle r on (run 4 r) (run 4 f) r_now r_on f_now f_on (sym after) x y));
      flies = same_plane _ _ (λ x y. both_ways (run 4 f x y) (on x y) (upper middle (run 4 r) (run 4 f) r on r_on r_now f_on f_now after x y) (upper middle r on (run 4 r) (run 4 f) r_now r_on f_now f_on (sym after) x y));
    }

-- so many times four generations
abbrev pub fours : ℕ → ℕ
fours zero = 0
fours (suc i) = 4 + fours i

pub fours_is : (i : ℕ) → fours i ≡ 4 * i
fours_is zero = refl
fours_is (suc i) = let e = fours_is i in omega arith

-- the part that flies is one further each time
pub flown : (s : Plane) (h : FliesOff s) (i : ℕ) → run (fours i) s ≡ union (back h.limit s) (shift (pos i) (pos i) (ahead h.limit s))
flown s h zero = both h.limit s ∙ ap (union (back h.limit s)) (sym (shift_none (ahead h.limit s)))
flown s h (suc i) =
    let r = back h.limit s in
    let f = ahead h.limit s in
    let p = parts s h in
    let further : Each (VAtLeast h.limit) (shift (pos i) (pos i) f) = λ x y live. let v = (behind_limit s h (x -ℤ pos i) (y -ℤ pos i) live).v in record { v = omega (arith, ints, v) } in
    let one : pos i +ℤ pos 1 ≡ pos (suc i) = omega (arith, ints) in
    run-add 4 (fours i) s ∙ ap (run 4) (flown s h i) ∙ run_union 4 r (shift (pos i) (pos i) f) (stay_apart h.limit r (shift (pos i) (pos i) f) h.gap further)
    ∙ (λ k. union (p.rest k) (run_shift 4 (pos i) (pos i) f k)) ∙ ap (λ q. union r (shift (pos i) (pos i) q)) p.flies ∙ ap (union r) (shift-shift (pos i) (pos 1) f) ∙ ap (λ z. union r (shift z z f)) one

-- a pattern that comes back does so each time
pub comes_back : (s : Plane) → run 4 s ≡ s → (i : ℕ) → run (fours i) s ≡ s
comes_back s same zero = refl
comes_back s same (suc i) = run-add 4 (fours i) s ∙ ap (run 4) (comes_back s same i) ∙ same
