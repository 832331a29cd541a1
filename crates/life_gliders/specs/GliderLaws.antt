-- A glider's plane tells its index, and on a salvo's track its lane too.
use Rattle.std.specs.Prelude.{◌≡◌, true, ◌⊎◌, ℕ, zero, suc, ℤ, pos, neg_ℤ, ◌+ℤ◌, ◌-ℤ◌, ◌≤ℤ◌, ◌<ℤ◌}
use Rattle.std.proofs.Common.{refl, sym, ap, ◌∙◌, inl, inr, arith}
use Rattle.std.proofs.lemmas.Int.{ints}
use Rattle.life_plane.specs.Plane.{Plane}
use Rattle.life_plane.specs.Finite.{plane_of}
use Rattle.life_plane.specs.Tracks.{stream_glider, phase}
use Rattle.life_plane.specs.TrackLaws.{stream_glider_at, quartered, stream_range, stream_front, stream_left}
use Rattle.life_plane.specs.Salvo.{salvo_glider}
use Rattle.life_plane.specs.SalvoLaws.{salvo_range, salvo_front, salvo_left}

-- ---- the stream

less_same_more : (j k : ℤ) → (j <ℤ k) ⊎ ((j ≡ k) ⊎ (k <ℤ j))
less_same_more j k = grind (arith, ints)

-- the foremost cell of the later one is past the earlier one, but for the very next index
next_index : (j k : ℤ) → stream_glider j ≡ stream_glider k → j <ℤ k → k ≡ j +ℤ pos 1
next_index j k e lt =
    let f = stream_front k in
    let far = f.far in
    let ahead = (stream_range j f.x f.y (ap (λ (s : Plane). s f.x f.y) e ∙ f.lives)).ahead in
    omega (arith, ints)

not_later : (j k : ℤ) → stream_glider j ≡ stream_glider k → j <ℤ k → ⊥
not_later j k e lt =
    let l = stream_left j in
    let there : stream_glider (j +ℤ pos 1) l.x l.y ≡ true = ap (λ i. stream_glider i l.x l.y) (sym (next_index j k e lt)) ∙ ap (λ (s : Plane). s l.x l.y) (sym e) ∙ l.lives in
    let gone = l.dies in
    cc

pub one_stream_glider : (j k : ℤ) → stream_glider j ≡ stream_glider k → j ≡ k
one_stream_glider j k e = elim (less_same_more j k) [
  | inl lt ↦ absurd (not_later j k e lt)
  | inr r ↦ elim r [ inl same ↦ same | inr gt ↦ absurd (not_later k j (sym e) gt) ]
]

-- ---- a salvo's lanes

-- a cell of the glider that is as far to its right side as any
record Side (j : ℤ) : Type 0 where
  pub x : ℤ
  pub y : ℤ
  pub lives : stream_glider j x y ≡ true
  pub side : x -ℤ y ≡ pos 1

record PhaseSide (r : ℕ) : Type 0 where
  pub x : ℤ
  pub y : ℤ
  pub lives : plane_of (phase r) x y ≡ true
  pub side : x -ℤ y ≡ pos 1

phase_side : (r : ℕ) → PhaseSide r
phase_side zero = record { x = pos 1; y = pos 0; lives = refl; side = refl }
phase_side (suc zero) = record { x = pos 2; y = pos 1; lives = refl; side = refl }
phase_side (suc (suc zero)) = record { x = pos 2; y = pos 1; lives = refl; side = refl }
phase_side (suc (suc (suc n))) = record { x = pos 3; y = pos 2; lives = refl; side = refl }

stream_side : (j : ℤ) → Side j
stream_side j =
    let w = quartered j in
    let f = phase_side w.r in
    let back : (a b : ℤ) → (a +ℤ b) -ℤ b ≡ a = λ a b. omega (arith, ints) in
    let side = f.side in
    record {
      x = f.x +ℤ w.q;
      y = f.y +ℤ w.q;
      lives = ap (λ (s : Plane). s (f.x +ℤ w.q) (f.y +ℤ w.q)) (ap stream_glider w.is ∙ stream_glider_at w.q w.r w.below) ∙ rw (back f.x w.q, back f.y w.q) f.lives;
      side = omega (arith, ints);
    }

record LaneSide (lane j : ℤ) : Type 0 where
  pub x : ℤ
  pub y : ℤ
  pub lives : salvo_glider lane j x y ≡ true
  pub side : x +ℤ y ≡ lane +ℤ pos 1

lane_side : (lane j : ℤ) → LaneSide lane j
unfolding salvo_glider
lane_side lane j =
    let f = stream_side j in
    let ex : (f.x +ℤ lane) -ℤ lane ≡ f.x = omega (arith, ints) in
    let ey : neg_ℤ (neg_ℤ f.y -ℤ pos 0) ≡ f.y = omega (arith, ints) in
    let side = f.side in
    record { x = f.x +ℤ lane; y = neg_ℤ f.y; lives = rw (ex, ey) f.lives; side = omega (arith, ints) }

lane_at_most : (l j m k : ℤ) → salvo_glider l j ≡ salvo_glider m k → l ≤ℤ m
lane_at_most l j m k e =
    let f = lane_side l j in
    let side = f.side in
    let high = (salvo_range m k f.x f.y (ap (λ (s : Plane). s f.x f.y) (sym e) ∙ f.lives)).high in
    omega (arith, ints)

one_lane : (l j m k : ℤ) → salvo_glider l j ≡ salvo_glider m k → l ≡ m
one_lane l j m k e = let up = lane_at_most l j m k e in let down = lane_at_most m k l j (sym e) in omega (arith, ints)

next_on_lane : (l j k : ℤ) → salvo_glider l j ≡ salvo_glider l k → j <ℤ k → k ≡ j +ℤ pos 1
next_on_lane l j k e lt =
    let f = salvo_front l k in
    let far = f.far in
    let ahead = (salvo_range l j f.x f.y (ap (λ (s : Plane). s f.x f.y) e ∙ f.lives)).ahead in
    omega (arith, ints)

not_later_on_lane : (l j k : ℤ) → salvo_glider l j ≡ salvo_glider l k → j <ℤ k → ⊥
not_later_on_lane l j k e lt =
    let f = salvo_left l j in
    let there : salvo_glider l (j +ℤ pos 1) f.x f.y ≡ true = ap (λ i. salvo_glider l i f.x f.y) (sym (next_on_lane l j k e lt)) ∙ ap (λ (s : Plane). s f.x f.y) (sym e) ∙ f.lives in
    let gone = f.dies in
    cc

one_index : (l j k : ℤ) → salvo_glider l j ≡ salvo_glider l k → j ≡ k
one_index l j k e = elim (less_same_more j k) [
  | inl lt ↦ absurd (not_later_on_lane l j k e lt)
  | inr r ↦ elim r [ inl same ↦ same | inr gt ↦ absurd (not_later_on_lane l k j (sym e) gt) ]
]

pub one_salvo_glider : (l j m k : ℤ) → salvo_glider l j ≡ salvo_glider m k → (l ≡ m) × (j ≡ k)
one_salvo_glider l j m k e =
    let lane = one_lane l j m k e in
    (lane, one_index l j k (e ∙ ap (λ (z : ℤ). salvo_glider z k) (sym lane)))
