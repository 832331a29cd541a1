-- A generation of planes that are apart: each part steps as it would alone.
use Rattle.std.specs.Prelude.{◌≡◌, true, false, ℤ, pos, ◌+ℤ◌, ◌-ℤ◌}
use Rattle.std.proofs.Common.{refl, sym, ◌∙◌, arith, inl, inr, ◌⊎◌}
use Rattle.std.proofs.lemmas.Int.{ints}
use Rattle.std.proofs.Math.Bool.{or-false}
use Rattle.std.proofs.lemmas.Bool.{false_from_ne_true}
use Rattle.life_plane.specs.Plane.{Plane, step, union, same_plane}
use Rattle.life_plane.specs.Apart.{Within, Apart, Live, Dead}

live_at : (s : Plane) (x y a b : ℤ) → Within (pos 1) x y a b → (Live s x y) ⊎ (s a b ≡ false)
live_at s x y a b w =
    elim (s a b) as (λ v. s a b ≡ v → (Live s x y) ⊎ (s a b ≡ false)) [
      | true ↦ λ h. inl (record { a = a; b = b; lives = h; near = w })
      | false ↦ λ h. inr h
    ] refl

or_else : {P A B : Type 0} → P ⊎ A → (A → P ⊎ B) → P ⊎ B
or_else (inl p) f = inl p
or_else (inr a) f = f a

pub live_or_dead : (s : Plane) (x y : ℤ) → (Live s x y) ⊎ (Dead s x y)
live_or_dead s x y =
    let w = x -ℤ pos 1 in let e = x +ℤ pos 1 in let n = y -ℤ pos 1 in let t = y +ℤ pos 1 in
    or_else (live_at s x y w n (record { right = omega (arith, ints); left = omega (arith, ints); below = omega (arith, ints); above = omega (arith, ints) })) (λ h1.
    or_else (live_at s x y x n (record { right = omega (arith, ints); left = omega (arith, ints); below = omega (arith, ints); above = omega (arith, ints) })) (λ h2.
    or_else (live_at s x y e n (record { right = omega (arith, ints); left = omega (arith, ints); below = omega (arith, ints); above = omega (arith, ints) })) (λ h3.
    or_else (live_at s x y w y (record { right = omega (arith, ints); left = omega (arith, ints); below = omega (arith, ints); above = omega (arith, ints) })) (λ h4.
    or_else (live_at s x y x y (record { right = omega (arith, ints); left = omega (arith, ints); below = omega (arith, ints); above = omega (arith, ints) })) (λ h5.
    or_else (live_at s x y e y (record { right = omega (arith, ints); left = omega (arith, ints); below = omega (arith, ints); above = omega (arith, ints) })) (λ h6.
    or_else (live_at s x y w t (record { right = omega (arith, ints); left = omega (arith, ints); below = omega (arith, ints); above = omega (arith, ints) })) (λ h7.
    or_else (live_at s x y x t (record { right = omega (arith, ints); left = omega (arith, ints); below = omega (arith, ints); above = omega (arith, ints) })) (λ h8.
    or_else (live_at s x y e t (record { right = omega (arith, ints); left = omega (arith, ints); below = omega (arith, ints); above = omega (arith, ints) })) (λ h9.
    inr (record { nw = h1; n = h2; ne = h3; w = h4; here = h5; e = h6; sw = h7; s' = h8; se = h9 }))))))))))

pub dead_step : (s : Plane) (x y : ℤ) → Dead s x y → step s x y ≡ false
unfolding step
dead_step s x y d = rw (d.nw, d.n, d.ne, d.w, d.here, d.e, d.sw, d.s', d.se) refl

dead_left : (s t : Plane) (x y : ℤ) → Dead s x y → step (union s t) x y ≡ step t x y
unfolding step
dead_left s t x y d = rw (d.nw, d.n, d.ne, d.w, d.here, d.e, d.sw, d.s', d.se) refl

dead_right : (s t : Plane) (x y : ℤ) → Dead t x y → step (union s t) x y ≡ step s x y
unfolding step
dead_right s t x y d = rw (d.nw, d.n, d.ne, d.w, d.here, d.e, d.sw, d.s', d.se) (simp or-false)

-- near a cell of one, the other is dead
pub far_dead : (s t : Plane) → Apart s t → (x y : ℤ) → Live s x y → Dead t x y
far_dead s t p x y l =
    let w = l.near in
    let quiet : (a b : ℤ) → Within (pos 1) x y a b → t a b ≡ false = λ a b v. false_from_ne_true _ (λ h. p.far l.a l.b a b l.lives h (record { right = omega (arith, ints, v.right, w.left); left = omega (arith, ints, v.left, w.right); below = omega (arith, ints, v.below, w.above); above = omega (arith, ints, v.above, w.below) })) in
    record {
      nw = quiet _ _ (record { right = omega (arith, ints); left = omega (arith, ints); below = omega (arith, ints); above = omega (arith, ints) });
      n = quiet _ _ (record { right = omega (arith, ints); left = omega (arith, ints); below = omega (arith, ints); above = omega (arith, ints) });
      ne = quiet _ _ (record { right = omega (arith, ints); left = omega (arith, ints); below = omega (arith, ints); above = omega (arith, ints) });
      w = quiet _ _ (record { right = omega (arith, ints); left = omega (arith, ints); below = omega (arith, ints); above = omega (arith, ints) });
      here = quiet _ _ (record { right = omega (arith, ints); left = omega (arith, ints); below = omega (arith, ints); above = omega (arith, ints) });
      e = quiet _ _ (record { right = omega (arith, ints); left = omega (arith, ints); below = omega (arith, ints); above = omega (arith, ints) });
      sw = quiet _ _ (record { right = omega (arith, ints); left = omega (arith, ints); below = omega (arith, ints); above = omega (arith, ints) });
      s' = quiet _ _ (record { right = omega (arith, ints); left = omega (arith, ints); below = omega (arith, ints); above = omega (arith, ints) });
      se = quiet _ _ (record { right = omega (arith, ints); left = omega (arith, ints); below = omega (arith, ints); above = omega (arith, ints) });
    }

pub step_union : (s t : Plane) → Apart s t → step (union s t) ≡ union (step s) (step t)
step_union s t p = same_plane _ _ (λ x y.
    elim (live_or_dead s x y) [
      | inl l ↦ let d = far_dead s t p x y l in
          dead_right s t x y d ∙ sym (rw (dead_step t x y d) (or-false (step s x y)))
      | inr d ↦ dead_left s t x y d ∙ sym (rw (dead_step s x y d) refl)
    ])
