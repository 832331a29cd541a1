-- A salvo glider: one generation on is one index on; where its cells lie; what a move makes of it.
use Rattle.std.specs.Prelude.{◌≡◌, false, ℕ, zero, suc, true, ℤ, pos, neg_ℤ, ◌+ℤ◌, ◌-ℤ◌, ◌*ℤ◌, ◌≤ℤ◌}
use Rattle.std.proofs.Common.{sym, ap, ◌∙◌, arith}
use Rattle.std.proofs.lemmas.Int.{ints}
use Rattle.life_plane.specs.Plane.{Plane, step, run, shift, same_plane, lives_on}
use Rattle.life_plane.specs.EvolveLaws.{step_shift}
use Rattle.life_plane.specs.Tracks.{stream_glider}
use Rattle.life_plane.specs.TrackLaws.{step_stream, stream_moved, stream_range, stream_front, stream_corner, stream_left}
use Rattle.life_plane.specs.Salvo.{flip, salvo_glider, OnLane, SalvoCornered}

pub step_flip : (s : Plane) → step (flip s) ≡ flip (step s)
unfolding step
step_flip s = same_plane _ _ (λ x y.
    let up : neg_ℤ (y -ℤ pos 1) ≡ neg_ℤ y +ℤ pos 1 = omega (arith, ints) in
    let down : neg_ℤ (y +ℤ pos 1) ≡ neg_ℤ y -ℤ pos 1 = omega (arith, ints) in
    rw (up, down) (ap (lives_on (s x (neg_ℤ y))) (omega arith)))

pub step_salvo : (lane j : ℤ) → step (salvo_glider lane j) ≡ salvo_glider lane (j +ℤ pos 1)
unfolding salvo_glider
step_salvo lane j = step_shift lane (pos 0) (flip (stream_glider j)) ∙ ap (shift lane (pos 0)) (step_flip (stream_glider j) ∙ ap flip (step_stream j))

pub run_salvo : (n : ℕ) (lane j : ℤ) → run n (salvo_glider lane j) ≡ salvo_glider lane (j +ℤ pos n)
run_salvo zero lane j = ap (salvo_glider lane) (let e : j ≡ j +ℤ pos 0 = omega (arith, ints) in e)
run_salvo (suc n) lane j = ap step (run_salvo n lane j) ∙ step_salvo lane (j +ℤ pos n) ∙ ap (salvo_glider lane) (let e : (j +ℤ pos n) +ℤ pos 1 ≡ j +ℤ pos (suc n) = omega (arith, ints) in e)

pub salvo_range : (lane j x y : ℤ) → salvo_glider lane j x y ≡ true → OnLane lane j x y
unfolding salvo_glider
salvo_range lane j x y h =
    let r = stream_range j (x -ℤ lane) (neg_ℤ (y -ℤ pos 0)) h in
    let behind = r.behind in
    let ahead = r.ahead in
    let left = r.left in
    let right = r.right in
    record { behind = omega (arith, ints); ahead = omega (arith, ints); low = omega (arith, ints); high = omega (arith, ints) }

-- A move by (a, b) makes the lane l + a + b and the index j - 4 b.
pub salvo_moved : (a b lane j : ℤ) → shift a b (salvo_glider lane j) ≡ salvo_glider ((lane +ℤ a) +ℤ b) (j -ℤ pos 4 *ℤ b)
unfolding salvo_glider
salvo_moved a b lane j = same_plane _ _ (λ x y.
    let moved : stream_glider (j -ℤ pos 4 *ℤ b) ≡ shift (neg_ℤ b) (neg_ℤ b) (stream_glider j) = sym (stream_moved (neg_ℤ b) j ∙ ap stream_glider (let e : j +ℤ pos 4 *ℤ neg_ℤ b ≡ j -ℤ pos 4 *ℤ b = omega (arith, ints) in e)) in
    let ex : (x -ℤ a) -ℤ lane ≡ (x -ℤ ((lane +ℤ a) +ℤ b)) -ℤ neg_ℤ b = omega (arith, ints) in
    let ey : neg_ℤ ((y -ℤ b) -ℤ pos 0) ≡ neg_ℤ (y -ℤ pos 0) -ℤ neg_ℤ b = omega (arith, ints) in
    ap (λ u. stream_glider j u (neg_ℤ ((y -ℤ b) -ℤ pos 0))) ex ∙ ap (stream_glider j ((x -ℤ ((lane +ℤ a) +ℤ b)) -ℤ neg_ℤ b)) ey
    ∙ ap (λ (s : Plane). s (x -ℤ ((lane +ℤ a) +ℤ b)) (neg_ℤ (y -ℤ pos 0))) (sym moved))

-- the foremost cell of a salvo glider
pub record SalvoFront (lane j : ℤ) : Type 0 where
  pub x : ℤ
  pub y : ℤ
  pub lives : salvo_glider lane j x y ≡ true
  pub far : (j +ℤ pos 7) ≤ℤ (pos 2 *ℤ ((x -ℤ y) -ℤ lane))

pub salvo_front : (lane j : ℤ) → SalvoFront lane j
unfolding salvo_glider
salvo_front lane j =
    let f = stream_front j in
    let ex : (f.x +ℤ lane) -ℤ lane ≡ f.x = omega (arith, ints) in
    let ey : neg_ℤ (neg_ℤ f.y -ℤ pos 0) ≡ f.y = omega (arith, ints) in
    let far = f.far in
    record { x = f.x +ℤ lane; y = neg_ℤ f.y; lives = rw (ex, ey) f.lives; far = omega (arith, ints) }

pub salvo_corner : (lane j x y : ℤ) → salvo_glider lane j x y ≡ true → SalvoCornered lane j x y
unfolding salvo_glider
salvo_corner lane j x y h =
    let c = stream_corner j (x -ℤ lane) (neg_ℤ (y -ℤ pos 0)) h in
    let right = c.right in
    let down = c.down in
    record { right = omega (arith, ints); up = omega (arith, ints) }

-- a cell that the glider leaves within a generation
pub record SalvoLeft (lane j : ℤ) : Type 0 where
  pub x : ℤ
  pub y : ℤ
  pub lives : salvo_glider lane j x y ≡ true
  pub dies : salvo_glider lane (j +ℤ pos 1) x y ≡ false

pub salvo_left : (lane j : ℤ) → SalvoLeft lane j
unfolding salvo_glider
salvo_left lane j =
    let f = stream_left j in
    let ex : (f.x +ℤ lane) -ℤ lane ≡ f.x = omega (arith, ints) in
    let ey : neg_ℤ (neg_ℤ f.y -ℤ pos 0) ≡ f.y = omega (arith, ints) in
    record { x = f.x +ℤ lane; y = neg_ℤ f.y; lives = rw (ex, ey) f.lives; dies = rw (ex, ey) f.dies }
