-- Spans and boxes that are far from each other, or near.
use Rattle.std.proofs.Common.{◌≡◌, ◌↔◌, IsTrue, ◌⊎◌, subst, Bool, true, false, inl, inr, refl, arith}
use Rattle.std.specs.Prelude.{ℤ, pos, ◌+ℤ◌, ◌≤ℤ◌, ◌<ℤ◌, ◌||◌}
use Rattle.std.specs.Int.{int_min, int_max}
use Rattle.std.proofs.lemmas.Int.{ints, clamps}
use Rattle.life_plane.specs.NumberLaws.{cases_below}
use Rattle.life_plane.specs.Plane.{Plane}
use Rattle.life_plane.specs.Apart.{Apart}
use Rattle.life_cells.specs.Boxes.{Holds}
use Rattle.life_cells.specs.declared.bounds.Bounds.{Bounds}
use Rattle.life_cone.specs.declared.boxes.Span.{Span}
use Rattle.life_cone.specs.FarBoxes.{AreFarBoxes, AreFarSpans, InSpan}
use Rattle.std.proofs.lemmas.Bool.{false≢true}

-- a number of the one span within 2 of a number of the other
pub record AreNearSpans (a b : Span) : Type 0 where
  pub x : ℤ
  pub p : ℤ
  pub in_a : InSpan a x
  pub in_b : InSpan b p
  pub up : p ≤ℤ (x +ℤ pos 2)
  pub down : x ≤ℤ (p +ℤ pos 2)

pub near_spans : (a b : Span) → a.low ≤ℤ a.high → b.low ≤ℤ b.high → b.low <ℤ (a.high +ℤ pos 3) → a.low <ℤ (b.high +ℤ pos 3) → AreNearSpans a b
near_spans a b la lb h k = record {
  x = int_min a.high (int_max a.low b.low);
  p = int_min b.high (int_max b.low a.low);
  in_a = record { from = omega (arith, ints, clamps); to = omega (arith, ints, clamps) };
  in_b = record { from = omega (arith, ints, clamps); to = omega (arith, ints, clamps) };
  up = omega (arith, ints, clamps);
  down = omega (arith, ints, clamps);
}

-- the four ways to be far
pub empty_is_far : (a b : Span) → a.high <ℤ a.low → AreFarSpans a b
empty_is_far a b h = record { far = λ x p i j up down. let f = i.from in let t = i.to in omega (arith, ints) }

pub far_from_empty : (a b : Span) → b.high <ℤ b.low → AreFarSpans a b
far_from_empty a b h = record { far = λ x p i j up down. let f = j.from in let t = j.to in omega (arith, ints) }

pub before_is_far : (a b : Span) → (a.high +ℤ pos 3) ≤ℤ b.low → AreFarSpans a b
before_is_far a b h = record { far = λ x p i j up down. let f = j.from in let t = i.to in omega (arith, ints) }

pub after_is_far : (a b : Span) → (b.high +ℤ pos 3) ≤ℤ a.low → AreFarSpans a b
after_is_far a b h = record { far = λ x p i j up down. let f = i.from in let t = j.to in omega (arith, ints) }

-- spans that are not far are near
spans_decide : (a b : Span) → AreFarSpans a b ⊎ AreNearSpans a b
spans_decide a b = by_a (cases_below a.high a.low) (cases_below b.high b.low) (cases_below b.low (a.high +ℤ pos 3)) (cases_below a.low (b.high +ℤ pos 3))
  where
    by_a : (a.high <ℤ a.low) ⊎ (a.low ≤ℤ a.high) → (b.high <ℤ b.low) ⊎ (b.low ≤ℤ b.high) → (b.low <ℤ (a.high +ℤ pos 3)) ⊎ ((a.high +ℤ pos 3) ≤ℤ b.low) → (a.low <ℤ (b.high +ℤ pos 3)) ⊎ ((b.high +ℤ pos 3) ≤ℤ a.low) → AreFarSpans a b ⊎ AreNearSpans a b
    by_a (inl h) eb eab eba = inl (empty_is_far a b h)
    by_a (inr h) (inl k) eab eba = inl (far_from_empty a b k)
    by_a (inr h) (inr k) (inr l) eba = inl (before_is_far a b l)
    by_a (inr h) (inr k) (inl l) (inr m) = inl (after_is_far a b m)
    by_a (inr h) (inr k) (inl l) (inl m) = inr (near_spans a b h k l m)

-- the tests of spans, all four
pub spans_test : (a b : Span) (t1 t2 t3 t4 : Bool) → (IsTrue t1 ↔ (a.high <ℤ a.low)) → (IsTrue t2 ↔ (b.high <ℤ b.low)) → (IsTrue t3 ↔ ((a.high +ℤ pos 3) ≤ℤ b.low)) → (IsTrue t4 ↔ ((b.high +ℤ pos 3) ≤ℤ a.low)) →
    (IsTrue (((t1 || t2) || t3) || t4) ↔ AreFarSpans a b)
spans_test a b true t2 t3 t4 h1 h2 h3 h4 = (λ _. empty_is_far a b (h1.0 refl), λ _. refl)
spans_test a b false true t3 t4 h1 h2 h3 h4 = (λ _. far_from_empty a b (h2.0 refl), λ _. refl)
spans_test a b false false true t4 h1 h2 h3 h4 = (λ _. before_is_far a b (h3.0 refl), λ _. refl)
spans_test a b false false false true h1 h2 h3 h4 = (λ _. after_is_far a b (h4.0 refl), λ _. refl)
spans_test a b false false false false h1 h2 h3 h4 =
    let n = near_spans a b (not_less h1) (not_less h2) (not_most h3) (not_most h4) in
    (λ h. absurd (false≢true h), λ h. absurd (h.far n.x n.p n.in_a n.in_b n.up n.down))
  where
    not_less : {m n : ℤ} → (IsTrue false ↔ (m <ℤ n)) → n ≤ℤ m
    not_less {m} {n} h = elim (cases_below m n) [ inl k ↦ absurd (false≢true (h.1 k)) | inr k ↦ k ]

    not_most : {m n : ℤ} → (IsTrue false ↔ (m ≤ℤ n)) → n <ℤ m
    not_most {m} {n} h = elim (cases_below n m) [ inl k ↦ k | inr k ↦ absurd (false≢true (h.1 k)) ]

-- spans apart by their columns or by their rows keep boxes apart
pub far_columns : (a b : Bounds) → AreFarSpans (record { low = a.left; high = a.right }) (record { low = b.left; high = b.right }) → AreFarBoxes a b
far_columns a b h = record { far = λ x y p q i j w. h.far x p (record { from = i.right_of_left; to = i.left_of_right }) (record { from = j.right_of_left; to = j.left_of_right }) w.right w.left }

pub far_rows : (a b : Bounds) → AreFarSpans (record { low = a.top; high = a.bottom }) (record { low = b.top; high = b.bottom }) → AreFarBoxes a b
far_rows a b h = record { far = λ x y p q i j w. h.far y q (record { from = i.below_top; to = i.above_bottom }) (record { from = j.below_top; to = j.above_bottom }) w.below w.above }

-- boxes near by their columns and by their rows have cells near each other
near_boxes : (a b : Bounds) → AreNearSpans (record { low = a.left; high = a.right }) (record { low = b.left; high = b.right }) → AreNearSpans (record { low = a.top; high = a.bottom }) (record { low = b.top; high = b.bottom }) → AreFarBoxes a b → ⊥
near_boxes a b h k far =
    far.far h.x k.x h.p k.p
    (record { right_of_left = h.in_a.from; below_top = k.in_a.from; left_of_right = h.in_a.to; above_bottom = k.in_a.to })
    (record { right_of_left = h.in_b.from; below_top = k.in_b.from; left_of_right = h.in_b.to; above_bottom = k.in_b.to })
    (record { right = h.up; left = h.down; below = k.up; above = k.down })

either_test : (a b : Bounds) (t u : Bool) → (IsTrue t ↔ AreFarSpans (record { low = a.left; high = a.right }) (record { low = b.left; high = b.right })) →
    (IsTrue u ↔ AreFarSpans (record { low = a.top; high = a.bottom }) (record { low = b.top; high = b.bottom })) → IsTrue (t || u) ↔ AreFarBoxes a b
either_test a b true u h k = (λ _. far_columns a b (h.0 refl), λ _. refl)
either_test a b false true h k = (λ _. far_rows a b (k.0 refl), λ _. refl)
either_test a b false false h k = (λ p. absurd (false≢true p), λ far. absurd (decide far (spans_decide _ _) (spans_decide _ _)))
  where
    decide : AreFarBoxes a b → AreFarSpans (record { low = a.left; high = a.right }) (record { low = b.left; high = b.right }) ⊎ AreNearSpans (record { low = a.left; high = a.right }) (record { low = b.left; high = b.right }) →
        AreFarSpans (record { low = a.top; high = a.bottom }) (record { low = b.top; high = b.bottom }) ⊎ AreNearSpans (record { low = a.top; high = a.bottom }) (record { low = b.top; high = b.bottom }) → ⊥
    decide far (inl p) q = false≢true (h.1 p)
    decide far (inr p) (inl q) = false≢true (k.1 q)
    decide far (inr p) (inr q) = near_boxes a b p q far

-- the tests of boxes, both
pub boxes_test : (a b : Bounds) (ac bc ar br : Span) (t u : Bool) → ac ≡ record { low = a.left; high = a.right } → bc ≡ record { low = b.left; high = b.right } → ar ≡ record { low = a.top; high = a.bottom } → br ≡ record { low = b.top; high = b.bottom } →
    (IsTrue t ↔ AreFarSpans ac bc) → (IsTrue u ↔ AreFarSpans ar br) → IsTrue (t || u) ↔ AreFarBoxes a b
boxes_test a b ac bc ar br t u eac ebc ear ebr h k =
    either_test a b t u
    (subst (λ (p : Span). IsTrue t ↔ AreFarSpans p (record { low = b.left; high = b.right })) eac (subst (λ (q : Span). IsTrue t ↔ AreFarSpans ac q) ebc h))
    (subst (λ (p : Span). IsTrue u ↔ AreFarSpans p (record { low = b.top; high = b.bottom })) ear (subst (λ (q : Span). IsTrue u ↔ AreFarSpans ar q) ebr k))

-- what far boxes hold is apart
pub far_apart : (a b : Bounds) (s t : Plane) → AreFarBoxes a b → Holds a s → Holds b t → Apart s t
far_apart a b s t h hs ht = record { far = λ x y p q l m w. h.far x y p q (hs.each x y l) (ht.each p q m) w }
