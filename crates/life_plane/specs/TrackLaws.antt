-- A stream glider: one generation on is one index on; where its cells lie; what a move makes of it.
use Rattle.std.specs.Prelude.{◌≡◌, false, Bool, true, ◌&&◌, ℕ, zero, suc, ◌+◌, ◌-◌, ℤ, pos, negsuc, neg_ℤ, ◌+ℤ◌, ◌-ℤ◌, ◌*ℤ◌, ◌≤ℤ◌, int_le, unsigned_abs, ◌*◌, ◌/◌, ◌%◌, ◌<◌, ◌⊎◌, List}
use Rattle.std.proofs.Common.{refl, sym, ap, ◌∙◌, arith, inl, inr}
use Rattle.std.specs.Int.{int_div_euclid, int_rem_euclid}
use Rattle.std.proofs.lemmas.Int.{ints}
use Rattle.std.proofs.lemmas.Bool.{and_parts}
use Rattle.life_plane.specs.NumberLaws.{le_from_test}
use Rattle.life_plane.specs.Plane.{Plane, step, run, shift, same_plane}
use Rattle.life_plane.specs.EvolveLaws.{step_shift}
use Rattle.life_plane.specs.Finite.{plane_of, steps_to_in_box, same_bool, FitsBox, each_cell}
use Rattle.life_plane.specs.FiniteLaws.{steps_to, each_live}
use Rattle.life_plane.specs.Tracks.{glider_0, glider_1, glider_2, glider_3, phase, stream_glider, OnStream, Cornered}

-- a cell with x and y from 0 to 3
abbrev in_box : ℤ → ℤ → Bool
in_box x y = (int_le (pos 0) x && int_le x (pos 3)) && (int_le (pos 0) y && int_le y (pos 3))

fits : (cs : List (ℤ × ℤ)) → each_cell in_box cs ≡ true → FitsBox (plane_of cs)
fits cs all = record {
  west = λ x y h. le_from_test (and_parts _ _ (and_parts _ _ (each_live in_box cs all x y h)).0).0;
  east = λ x y h. le_from_test (and_parts _ _ (and_parts _ _ (each_live in_box cs all x y h)).0).1;
  north = λ x y h. le_from_test (and_parts _ _ (and_parts _ _ (each_live in_box cs all x y h)).1).0;
  south = λ x y h. le_from_test (and_parts _ _ (and_parts _ _ (each_live in_box cs all x y h)).1).1;
}

phase_fits : (r : ℕ) → FitsBox (plane_of (phase r))
phase_fits zero = fits glider_0 refl
phase_fits (suc zero) = fits glider_1 refl
phase_fits (suc (suc zero)) = fits glider_2 refl
phase_fits (suc (suc (suc n))) = fits glider_3 refl

step_0 : step (plane_of glider_0) ≡ plane_of glider_1
unfolding steps_to_in_box step same_bool
step_0 = steps_to _ _ (phase_fits 0) (phase_fits 1) refl

step_1 : step (plane_of glider_1) ≡ plane_of glider_2
unfolding steps_to_in_box step same_bool
step_1 = steps_to _ _ (phase_fits 1) (phase_fits 2) refl

step_2 : step (plane_of glider_2) ≡ plane_of glider_3
unfolding steps_to_in_box step same_bool
step_2 = steps_to _ _ (phase_fits 2) (phase_fits 3) refl

-- a cell with x and y from 0 to 2
abbrev in_small_box : ℤ → ℤ → Bool
in_small_box x y = (int_le (pos 0) x && int_le x (pos 2)) && (int_le (pos 0) y && int_le y (pos 2))

fits_moved : FitsBox (shift (pos 1) (pos 1) (plane_of glider_0))
fits_moved = record {
  west = λ x y h. let low : pos 0 ≤ℤ (x -ℤ pos 1) = le_from_test (across x (small x y h).0).0 in omega (arith, ints);
  east = λ x y h. let high : (x -ℤ pos 1) ≤ℤ pos 2 = le_from_test (across x (small x y h).0).1 in omega (arith, ints);
  north = λ x y h. let low : pos 0 ≤ℤ (y -ℤ pos 1) = le_from_test (across y (small x y h).1).0 in omega (arith, ints);
  south = λ x y h. let high : (y -ℤ pos 1) ≤ℤ pos 2 = le_from_test (across y (small x y h).1).1 in omega (arith, ints);
}
  where
    across : (z : ℤ) → (int_le (pos 0) (z -ℤ pos 1) && int_le (z -ℤ pos 1) (pos 2)) ≡ true → (int_le (pos 0) (z -ℤ pos 1) ≡ true) × (int_le (z -ℤ pos 1) (pos 2) ≡ true)
    across z k = and_parts (int_le (pos 0) (z -ℤ pos 1)) (int_le (z -ℤ pos 1) (pos 2)) k

    small : (x y : ℤ) → shift (pos 1) (pos 1) (plane_of glider_0) x y ≡ true →
        ((int_le (pos 0) (x -ℤ pos 1) && int_le (x -ℤ pos 1) (pos 2)) ≡ true) × ((int_le (pos 0) (y -ℤ pos 1) && int_le (y -ℤ pos 1) (pos 2)) ≡ true)
    small x y h = and_parts _ _ (each_live in_small_box glider_0 refl (x -ℤ pos 1) (y -ℤ pos 1) h)

step_3 : step (plane_of glider_3) ≡ shift (pos 1) (pos 1) (plane_of glider_0)
unfolding steps_to_in_box step same_bool
step_3 = steps_to _ _ (phase_fits 3) fits_moved refl

-- index 4 q + r, in its quarter q and phase r
quarter : (q : ℤ) (r : ℕ) → r < 4 → int_div_euclid (pos 4 *ℤ q +ℤ pos r) (pos 4) ≡ q
quarter (pos a) r h = ap pos (let e : (4 * a + r) / 4 ≡ a = omega arith in e)
quarter (negsuc a) r h =
    let e : neg_ℤ (pos (4 * suc a)) +ℤ pos r ≡ negsuc (4 * a + 3 - r) = omega (arith, ints) in
    let d : (4 * a + 3 - r) / 4 ≡ a = omega arith in
    ap (λ z. int_div_euclid z (pos 4)) e ∙ ap negsuc d

remainder : (q : ℤ) (r : ℕ) → r < 4 → unsigned_abs (int_rem_euclid (pos 4 *ℤ q +ℤ pos r) (pos 4)) ≡ r
remainder (pos a) r h = let e : (4 * a + r) % 4 ≡ r = omega arith in e
remainder (negsuc a) r h =
    let e : neg_ℤ (pos (4 * suc a)) +ℤ pos r ≡ negsuc (4 * a + 3 - r) = omega (arith, ints) in
    let d : 4 - 1 - (4 * a + 3 - r) % 4 ≡ r = omega arith in
    ap (λ z. unsigned_abs (int_rem_euclid z (pos 4))) e ∙ d

-- the glider in its quarter and phase
pub stream_glider_at : (q : ℤ) (r : ℕ) → r < 4 → stream_glider (pos 4 *ℤ q +ℤ pos r) ≡ shift q q (plane_of (phase r))
unfolding stream_glider
stream_glider_at q r h = rw (quarter q r h, remainder q r h) refl

-- an index as a quarter and a phase
pub record Quartered (j : ℤ) : Type 0 where
  pub q : ℤ
  pub r : ℕ
  pub below : r < 4
  pub is : j ≡ pos 4 *ℤ q +ℤ pos r

pub quartered : (j : ℤ) → Quartered j
quartered (pos n) = record { q = pos (n / 4); r = n % 4; below = omega arith; is = ap pos (let e : n ≡ 4 * (n / 4) + n % 4 = omega arith in e) }
quartered (negsuc n) = record { q = negsuc (n / 4); r = 3 - n % 4; below = omega arith; is = omega (arith, ints) }

pub shift-shift : (a b : ℤ) (s : Plane) → shift a a (shift b b s) ≡ shift (a +ℤ b) (a +ℤ b) s
shift-shift a b s = same_plane _ _ (λ x y. let f : (z : ℤ) → (z -ℤ a) -ℤ b ≡ z -ℤ (a +ℤ b) = λ z. omega (arith, ints) in rw (f x, f y) refl)

step_phase : (r : ℕ) → r < 3 → step (plane_of (phase r)) ≡ plane_of (phase (suc r))
step_phase zero h = step_0
step_phase (suc zero) h = step_1
step_phase (suc (suc zero)) h = step_2
step_phase (suc (suc (suc n))) h = absurd (omega arith)

-- one generation on is one index on
step_in : (q : ℤ) (r : ℕ) → r < 4 → (r < 3) ⊎ (r ≡ 3) → step (stream_glider (pos 4 *ℤ q +ℤ pos r)) ≡ stream_glider ((pos 4 *ℤ q +ℤ pos r) +ℤ pos 1)
step_in q r h (inl k) =
    ap step (stream_glider_at q r h) ∙ step_shift q q (plane_of (phase r)) ∙ ap (shift q q) (step_phase r k)
    ∙ sym (stream_glider_at q (suc r) (omega arith)) ∙ ap stream_glider (let e : pos 4 *ℤ q +ℤ pos (suc r) ≡ (pos 4 *ℤ q +ℤ pos r) +ℤ pos 1 = omega (arith, ints) in e)
step_in q r h (inr k) =
    let e3 : pos 4 *ℤ q +ℤ pos r ≡ pos 4 *ℤ q +ℤ pos 3 = ap (λ n. pos 4 *ℤ q +ℤ pos n) k in
    ap (λ j. step (stream_glider j)) e3 ∙ ap step (stream_glider_at q 3 (omega arith)) ∙ step_shift q q (plane_of (phase 3)) ∙ ap (shift q q) step_3
    ∙ shift-shift q (pos 1) (plane_of glider_0) ∙ sym (stream_glider_at (q +ℤ pos 1) 0 (omega arith))
    ∙ ap stream_glider (let e : pos 4 *ℤ (q +ℤ pos 1) +ℤ pos 0 ≡ (pos 4 *ℤ q +ℤ pos r) +ℤ pos 1 = omega (arith, ints) in e)

pub step_stream : (j : ℤ) → step (stream_glider j) ≡ stream_glider (j +ℤ pos 1)
step_stream j =
    let w = quartered j in
    let split : (r : ℕ) → r < 4 → (r < 3) ⊎ (r ≡ 3) = λ r h. grind arith in
    ap (λ i. step (stream_glider i)) w.is ∙ step_in w.q w.r w.below (split w.r w.below) ∙ ap (λ i. stream_glider (i +ℤ pos 1)) (sym w.is)

pub run_stream : (n : ℕ) (j : ℤ) → run n (stream_glider j) ≡ stream_glider (j +ℤ pos n)
run_stream zero j = ap stream_glider (let e : j ≡ j +ℤ pos 0 = omega (arith, ints) in e)
run_stream (suc n) j = ap step (run_stream n j) ∙ step_stream (j +ℤ pos n) ∙ ap stream_glider (let e : (j +ℤ pos n) +ℤ pos 1 ≡ j +ℤ pos (suc n) = omega (arith, ints) in e)

-- a move along the diagonal is four indices back or on for each cell
pub stream_moved : (a j : ℤ) → shift a a (stream_glider j) ≡ stream_glider (j +ℤ pos 4 *ℤ a)
stream_moved a j =
    let w = quartered j in
    ap (λ i. shift a a (stream_glider i)) w.is ∙ ap (shift a a) (stream_glider_at w.q w.r w.below) ∙ shift-shift a w.q (plane_of (phase w.r))
    ∙ sym (stream_glider_at (a +ℤ w.q) w.r w.below) ∙ ap stream_glider (let e : pos 4 *ℤ (a +ℤ w.q) +ℤ pos w.r ≡ j +ℤ pos 4 *ℤ a = omega (arith, ints, w.is) in e)

abbrev on_lane : ℤ → ℤ → ℤ → Bool
on_lane r x y = ((int_le (r +ℤ pos 1) (pos 2 *ℤ (x +ℤ y))) && (int_le (pos 2 *ℤ (x +ℤ y)) (r +ℤ pos 8))) && (int_le (negsuc 1) (x -ℤ y) && int_le (x -ℤ y) (pos 1))

phase_on_lane : (r : ℕ) → r < 4 → each_cell (on_lane (pos r)) (phase r) ≡ true
phase_on_lane zero h = refl
phase_on_lane (suc zero) h = refl
phase_on_lane (suc (suc zero)) h = refl
phase_on_lane (suc (suc (suc zero))) h = refl
phase_on_lane (suc (suc (suc (suc n)))) h = absurd (omega arith)

pub stream_range : (j x y : ℤ) → stream_glider j x y ≡ true → OnStream j x y
stream_range j x y h =
    let w = quartered j in
    let a = x -ℤ w.q in
    let b = y -ℤ w.q in
    let here : plane_of (phase w.r) a b ≡ true = ap (λ (s : Plane). s x y) (sym (ap stream_glider w.is ∙ stream_glider_at w.q w.r w.below)) ∙ h in
    let lane = and_parts _ _ (each_live (on_lane (pos w.r)) (phase w.r) (phase_on_lane w.r w.below) a b here) in
    let along = and_parts _ _ lane.0 in
    let across = and_parts _ _ lane.1 in
    let low : (pos w.r +ℤ pos 1) ≤ℤ (pos 2 *ℤ (a +ℤ b)) = le_from_test along.0 in
    let high : (pos 2 *ℤ (a +ℤ b)) ≤ℤ (pos w.r +ℤ pos 8) = le_from_test along.1 in
    let west : negsuc 1 ≤ℤ (a -ℤ b) = le_from_test across.0 in
    let east : (a -ℤ b) ≤ℤ pos 1 = le_from_test across.1 in
    let is = w.is in
    record { behind = omega (arith, ints); ahead = omega (arith, ints); left = omega (arith, ints); right = omega (arith, ints) }

-- the foremost cell of a glider
pub record Front (j : ℤ) : Type 0 where
  pub x : ℤ
  pub y : ℤ
  pub lives : stream_glider j x y ≡ true
  pub far : (j +ℤ pos 7) ≤ℤ (pos 2 *ℤ (x +ℤ y))

pub record PhaseFront (r : ℕ) : Type 0 where
  pub x : ℤ
  pub y : ℤ
  pub lives : plane_of (phase r) x y ≡ true
  pub far : (pos r +ℤ pos 7) ≤ℤ (pos 2 *ℤ (x +ℤ y))

phase_front : (r : ℕ) → r < 4 → PhaseFront r
phase_front zero h = record { x = pos 2; y = pos 2; lives = refl; far = omega (arith, ints) }
phase_front (suc zero) h = record { x = pos 2; y = pos 2; lives = refl; far = omega (arith, ints) }
phase_front (suc (suc zero)) h = record { x = pos 2; y = pos 3; lives = refl; far = omega (arith, ints) }
phase_front (suc (suc (suc n))) h = record { x = pos 2; y = pos 3; lives = refl; far = omega (arith, ints) }

pub stream_front : (j : ℤ) → Front j
stream_front j =
    let w = quartered j in
    let f = phase_front w.r w.below in
    let back : (a b : ℤ) → (a +ℤ b) -ℤ b ≡ a = λ a b. omega (arith, ints) in
    let is = w.is in
    let far = f.far in
    record {
      x = f.x +ℤ w.q;
      y = f.y +ℤ w.q;
      lives = ap (λ (s : Plane). s (f.x +ℤ w.q) (f.y +ℤ w.q)) (ap stream_glider w.is ∙ stream_glider_at w.q w.r w.below) ∙ rw (back f.x w.q, back f.y w.q) f.lives;
      far = omega (arith, ints);
    }

pub stream_corner : (j x y : ℤ) → stream_glider j x y ≡ true → Cornered j x y
stream_corner j x y h =
    let w = quartered j in
    let here : plane_of (phase w.r) (x -ℤ w.q) (y -ℤ w.q) ≡ true = ap (λ (s : Plane). s x y) (sym (ap stream_glider w.is ∙ stream_glider_at w.q w.r w.below)) ∙ h in
    let f = phase_fits w.r in
    let east = f.east (x -ℤ w.q) (y -ℤ w.q) here in
    let south = f.south (x -ℤ w.q) (y -ℤ w.q) here in
    let is = w.is in
    record { right = omega (arith, ints); down = omega (arith, ints) }

-- a cell that the glider leaves within a generation
pub record Left (j : ℤ) : Type 0 where
  pub x : ℤ
  pub y : ℤ
  pub lives : stream_glider j x y ≡ true
  pub dies : stream_glider (j +ℤ pos 1) x y ≡ false

pub record PhaseLeft (r : ℕ) : Type 0 where
  pub x : ℤ
  pub y : ℤ
  pub lives : plane_of (phase r) x y ≡ true
  pub dies : step (plane_of (phase r)) x y ≡ false

phase_left : (r : ℕ) → PhaseLeft r
phase_left zero = record { x = pos 1; y = pos 0; lives = refl; dies = ap (λ (s : Plane). s (pos 1) (pos 0)) step_0 }
phase_left (suc zero) = record { x = pos 0; y = pos 1; lives = refl; dies = ap (λ (s : Plane). s (pos 0) (pos 1)) step_1 }
phase_left (suc (suc zero)) = record { x = pos 2; y = pos 1; lives = refl; dies = ap (λ (s : Plane). s (pos 2) (pos 1)) step_2 }
phase_left (suc (suc (suc n))) = record { x = pos 1; y = pos 1; lives = refl; dies = ap (λ (s : Plane). s (pos 1) (pos 1)) step_3 }

pub stream_left : (j : ℤ) → Left j
stream_left j =
    let w = quartered j in
    let f = phase_left w.r in
    let back : (a b : ℤ) → (a +ℤ b) -ℤ b ≡ a = λ a b. omega (arith, ints) in
    let at_j : stream_glider j ≡ shift w.q w.q (plane_of (phase w.r)) = ap stream_glider w.is ∙ stream_glider_at w.q w.r w.below in
    let next : stream_glider (j +ℤ pos 1) ≡ shift w.q w.q (step (plane_of (phase w.r))) = sym (step_stream j) ∙ ap step at_j ∙ step_shift w.q w.q (plane_of (phase w.r)) in
    record {
      x = f.x +ℤ w.q;
      y = f.y +ℤ w.q;
      lives = ap (λ (s : Plane). s (f.x +ℤ w.q) (f.y +ℤ w.q)) at_j ∙ rw (back f.x w.q, back f.y w.q) f.lives;
      dies = ap (λ (s : Plane). s (f.x +ℤ w.q) (f.y +ℤ w.q)) next ∙ rw (back f.x w.q, back f.y w.q) f.dies;
    }
