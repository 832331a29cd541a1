-- How a glider comes to its hit, and how long a hit lasts.
use Rattle.std.specs.Prelude.{◌≡◌, ℕ, zero, suc, ◌≤◌, ◌<◌, true, ◌||◌, ◌⊎◌, ℤ, pos, neg_ℤ, ◌+ℤ◌, ◌-ℤ◌, ◌*ℤ◌, ◌≤ℤ◌}
use Rattle.std.specs.Int.{int_max}
use Rattle.std.proofs.Common.{sym, subst, ap, ◌∙◌, arith, inl, inr}
use Rattle.std.proofs.lemmas.Int.{ints, clamps}
use Rattle.std.proofs.lemmas.Bool.{cases_lt, or_left}
use Rattle.std.proofs.Math.Bool.{or-false, or-true}
use Rattle.life_plane.specs.Plane.{Plane, step, run, union, IsStill}
use Rattle.life_plane.specs.Apart.{Apart, Within}
use Rattle.life_plane.specs.ApartLaws.{step_union}
use Rattle.life_plane.specs.Salvo.{salvo_glider, SalvoCornered}
use Rattle.life_plane.specs.SalvoLaws.{step_salvo, salvo_corner, salvo_left}
use Rattle.life_plane.specs.Strips.{Each}
use Rattle.life_scene.specs.Hits.{Box, InBox, last_index_before, hit_start, IsHit}

-- Up to then a glider has not come to the box.
pub coming_apart : (lane : ℤ) (b : Box) (s : Plane) (j : ℤ) → Each (InBox b) s → j ≤ℤ last_index_before lane b → Apart s (salvo_glider lane j)
coming_apart lane b s j inside early = record {
  far = λ x y u v p q w.
      let i = inside x y p in
      let c = salvo_corner lane j u v q in
      by_side (side (b.left -ℤ pos 6 -ℤ lane) (neg_ℤ b.bottom -ℤ pos 6)) x y u v i c w;
}
  where
    side : (a c : ℤ) → (int_max a c ≡ a) ⊎ (int_max a c ≡ c)
    side a c = grind (arith, ints, clamps)

    by_side : (int_max ((b.left -ℤ pos 6) -ℤ lane) (neg_ℤ b.bottom -ℤ pos 6) ≡ (b.left -ℤ pos 6) -ℤ lane) ⊎ (int_max ((b.left -ℤ pos 6) -ℤ lane) (neg_ℤ b.bottom -ℤ pos 6) ≡ neg_ℤ b.bottom -ℤ pos 6) →
        (x y u v : ℤ) → InBox b x y → SalvoCornered lane j u v → Within (pos 2) x y u v → ⊥
    by_side (inl e) x y u v i c w =
        let near : j ≤ℤ (pos 4 *ℤ ((b.left -ℤ pos 6) -ℤ lane) +ℤ pos 3) = subst (λ m. j ≤ℤ (pos 4 *ℤ m +ℤ pos 3)) e early in
        let l = i.left in let r = c.right in let d = w.left in omega (arith, ints)
    by_side (inr e) x y u v i c w =
        let near : j ≤ℤ (pos 4 *ℤ (neg_ℤ b.bottom -ℤ pos 6) +ℤ pos 3) = subst (λ m. j ≤ℤ (pos 4 *ℤ m +ℤ pos 3)) e early in
        let l = i.bottom in let r = c.up in let d = w.below in omega (arith, ints)

-- up to its third generation the glider only moves on
pub hit_early : (struck : Plane) (sb : Box) (lane quarter : ℤ) (n : ℕ) (left : Plane) (b : Box) → IsStill struck → IsHit struck sb lane quarter n left b →
    (t : ℕ) → t ≤ 4 → run t (hit_start struck lane quarter) ≡ union struck (salvo_glider lane (pos 4 *ℤ quarter +ℤ pos t))
hit_early struck sb lane quarter n left b s h zero k = ap (λ j. union struck (salvo_glider lane j)) (let e : pos 4 *ℤ quarter ≡ pos 4 *ℤ quarter +ℤ pos 0 = omega (arith, ints) in e)
hit_early struck sb lane quarter n left b s h (suc t) k =
    let begins = h.begins in
    ap step (hit_early struck sb lane quarter n left b s h t (omega arith))
    ∙ step_union struck (salvo_glider lane (pos 4 *ℤ quarter +ℤ pos t)) (coming_apart lane sb struck (pos 4 *ℤ quarter +ℤ pos t) h.fits (rw (← begins) (omega (arith, ints))))
    ∙ ap (λ p. union p (step (salvo_glider lane (pos 4 *ℤ quarter +ℤ pos t)))) s
    ∙ ap (union struck) (step_salvo lane (pos 4 *ℤ quarter +ℤ pos t) ∙ ap (salvo_glider lane) (let e : (pos 4 *ℤ quarter +ℤ pos t) +ℤ pos 1 ≡ pos 4 *ℤ quarter +ℤ pos (suc t) = omega (arith, ints) in e))

-- a free glider is never still, so a hit lasts for more than three generations
pub hit_lasts : (struck : Plane) (sb : Box) (lane quarter : ℤ) (n : ℕ) (left : Plane) (b : Box) → IsStill struck → IsHit struck sb lane quarter n left b → 4 ≤ n
hit_lasts struck sb lane quarter n left b s h = by_time (cases_lt n 4)
  where
    moves : n < 4 → ⊥
    moves k =
        let begins = h.begins in
        let now : left ≡ union struck (salvo_glider lane (pos 4 *ℤ quarter +ℤ pos n)) = sym h.ends ∙ hit_early struck sb lane quarter n left b s h n (omega arith) in
        let then : left ≡ union struck (salvo_glider lane ((pos 4 *ℤ quarter +ℤ pos n) +ℤ pos 1)) =
        sym h.still ∙ ap step (sym h.ends) ∙ hit_early struck sb lane quarter n left b s h (suc n) (omega arith)
        ∙ ap (λ j. union struck (salvo_glider lane j)) (let e : pos 4 *ℤ quarter +ℤ pos (suc n) ≡ (pos 4 *ℤ quarter +ℤ pos n) +ℤ pos 1 = omega (arith, ints) in e) in
        let c = salvo_left lane (pos 4 *ℤ quarter +ℤ pos n) in
        let here : left c.x c.y ≡ true = ap (λ (p : Plane). p c.x c.y) now ∙ ap (λ v. struck c.x c.y || v) c.lives ∙ or-true (struck c.x c.y) in
        let stands : struck c.x c.y ≡ true = sym (or-false (struck c.x c.y)) ∙ ap (λ v. struck c.x c.y || v) (sym c.dies) ∙ sym (ap (λ (p : Plane). p c.x c.y) then) ∙ here in
        (coming_apart lane sb struck (pos 4 *ℤ quarter +ℤ pos n) h.fits (rw (← begins) (omega (arith, ints)))).far c.x c.y c.x c.y stands c.lives
        (record { right = omega (arith, ints); left = omega (arith, ints); below = omega (arith, ints); above = omega (arith, ints) })

    by_time : (n < 4) ⊎ (4 ≤ n) → 4 ≤ n
    by_time (inl k) = absurd (moves k)
    by_time (inr k) = k

-- what a hit strikes lies in its bounds
pub struck_inside : (struck : Plane) (struck_bounds : Box) (lane quarter : ℤ) (n : ℕ) (left : Plane) (bounds : Box) → IsHit struck struck_bounds lane quarter n left bounds → Each (InBox bounds) struck
struck_inside struck struck_bounds lane quarter n left bounds h x y l = h.inside 0 (omega arith) x y (or_left (struck x y) (salvo_glider lane (pos 4 *ℤ quarter) x y) l)

-- and so does what it leaves
pub left_inside : (struck : Plane) (struck_bounds : Box) (lane quarter : ℤ) (n : ℕ) (left : Plane) (bounds : Box) → IsHit struck struck_bounds lane quarter n left bounds → Each (InBox bounds) left
left_inside struck struck_bounds lane quarter n left bounds h x y l = h.inside n (omega arith) x y (ap (λ (q : Plane). q x y) h.ends ∙ l)
