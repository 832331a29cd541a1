-- What follows from clearance, for the gliders that come to a hit or past it.
use Rattle.std.specs.Prelude.{◌≡◌, ℕ, ◌+◌, ◌-◌, ◌≤◌, ◌<◌, max, true, ◌&&◌, ◌||◌, ℤ, pos, ◌+ℤ◌, ◌-ℤ◌, ◌*ℤ◌, ◌≤ℤ◌, int_le}
use Rattle.std.proofs.Common.{refl, sym, ap, ◌∙◌, arith, inl, inr}
use Rattle.std.proofs.lemmas.Int.{ints}
use Rattle.std.proofs.Math.Bool.{or-true}
use Rattle.std.proofs.lemmas.Bool.{and_parts}
use Rattle.life_plane.specs.NumberLaws.{le_from_test, test_from_le}
use Rattle.life_plane.specs.Plane.{Plane, run, union}
use Rattle.life_plane.specs.Apart.{Apart, Within}
use Rattle.life_plane.specs.EvolveLaws.{run-add}
use Rattle.life_plane.specs.Salvo.{salvo_glider, OnLane}
use Rattle.life_plane.specs.SalvoLaws.{salvo_range, salvo_front}
use Rattle.life_plane.specs.Strips.{Each}
use Rattle.life_scene.specs.Turns.{Rules, beyond}
use Rattle.life_scene.specs.HandSide.{flight, struck, Subset, Strikes, Passes}
use Rattle.life_scene.specs.HandLaws.{apart_part}
use Rattle.life_scene.specs.Whole.{IsFar}
use Rattle.life_scene.specs.Hits.{Box, InBox, hit_start, IsHit}
use Rattle.life_scene.specs.HitLaws.{coming_apart, hit_early, hit_lasts}
use Rattle.life_scene.specs.Clearance.{Aside, OffBox, box_plane, Planned, as_hit, ComesPast, Outruns}

-- a glider on its lane does not touch what is aside
pub aside_apart : (lane quarter : ℤ) (s : Plane) (j : ℤ) → Each (Aside lane quarter) s → j ≤ℤ (pos 4 *ℤ quarter +ℤ pos 3) → Apart s (salvo_glider lane j)
aside_apart lane quarter s j a early = record { far = λ x y u v p q w. by_side x y u v (a x y p) (salvo_range lane j u v q) w }
  where
    by_side : (x y u v : ℤ) → Aside lane quarter x y → OnLane lane j u v → Within (pos 2) x y u v → ⊥
    by_side x y u v (inl k) r w = let a = r.low in let b = w.right in let c = w.left in let d = w.below in let e = w.above in omega (arith, ints)
    by_side x y u v (inr (inl k)) r w = let a = r.high in let b = w.right in let c = w.left in let d = w.below in let e = w.above in omega (arith, ints)
    by_side x y u v (inr (inr k)) r w = let a = r.ahead in let b = w.right in let c = w.left in let d = w.below in let e = w.above in omega (arith, ints)

pub in_box_plane : (b : Box) (x y : ℤ) → InBox b x y → box_plane b x y ≡ true
in_box_plane b x y i = rw (test_from_le i.left, test_from_le i.top, test_from_le i.right, test_from_le i.bottom) refl

pub box_plane_in : (b : Box) → Each (InBox b) (box_plane b)
box_plane_in b x y p =
    let h = and_parts (int_le b.left x && int_le b.top y) (int_le x b.right && int_le y b.bottom) p in
    let west = and_parts (int_le b.left x) (int_le b.top y) h.0 in
    let east = and_parts (int_le x b.right) (int_le y b.bottom) h.1 in
    record { left = le_from_test west.0; top = le_from_test west.1; right = le_from_test east.0; bottom = le_from_test east.1 }

pub off_box_apart : (b : Box) (s : Plane) → Each (OffBox b) s → Apart s (box_plane b)
off_box_apart b s off = record { far = λ x y u v p q w. off x y p u v (box_plane_in b u v q) w }

pub box_is_far : (r : Rules) (b : Box) → beyond r.reach ≤ℤ (b.left -ℤ b.bottom) → IsFar r (box_plane b)
box_is_far r b works x y p = let i = box_plane_in b x y p in let l = i.left in let d = i.bottom in record { u = omega (arith, ints) }

-- a glider that is thrown within the reach comes to a hit beyond it only later, by 9 generations at least
pub glider_before : (reach : ℤ) (struck : Plane) (struck_bounds : Box) (lane quarter : ℤ) (n : ℕ) (left : Plane) (bounds : Box) (j : ℤ) → IsHit struck struck_bounds lane quarter n left bounds →
    beyond reach ≤ℤ (bounds.left -ℤ bounds.bottom) → ((pos 2 *ℤ lane +ℤ j) +ℤ pos 7) ≤ℤ (pos 2 *ℤ reach) → (j +ℤ pos 9) ≤ℤ (pos 4 *ℤ quarter)
glider_before reach struck struck_bounds lane quarter n left bounds j h works within =
    let f = salvo_front lane (pos 4 *ℤ quarter) in
    let lives : hit_start struck lane quarter f.x f.y ≡ true = ap (λ v. struck f.x f.y || v) f.lives ∙ or-true (struck f.x f.y) in
    let i = h.inside 0 (omega arith) f.x f.y lives in
    let l = i.left in
    let b = i.bottom in
    let ahead = (salvo_range lane (pos 4 *ℤ quarter) f.x f.y f.lives).ahead in
    omega (arith, ints)

module _ (r : Rules) (built hand : Plane) (since : ℕ) (p : Planned r built hand since) where
  lasts : 4 ≤ p.n
  lasts = hit_lasts hand p.struck_bounds p.lane p.quarter p.n p.left p.bounds p.rests.hand_still p.is_hit

  -- the generations by which the glider joins late
  abbrev late : ℕ
  late = max p.b since - p.b

  late_few : late ≤ 3
  late_few = let s = p.soon in omega arith

  -- the glider joins as the hit of its own beginning would have it by then
  at_join : struck hand (as_hit p) ≡ run late (hit_start hand p.lane p.quarter)
  at_join =
      let begins = p.begins in
      ap (λ j. union hand (salvo_glider p.lane j)) (let e : p.j +ℤ (pos (max p.b since) -ℤ pos p.e) ≡ pos 4 *ℤ p.quarter +ℤ pos late = omega (arith, ints) in e)
      ∙ sym (hit_early hand p.struck_bounds p.lane p.quarter p.n p.left p.bounds p.rests.hand_still p.is_hit late (let k = late_few in omega arith))

  struck_runs : (i : ℕ) → run i (struck hand (as_hit p)) ≡ run (i + late) (hit_start hand p.lane p.quarter)
  struck_runs i = ap (run i) at_join ∙ sym (run-add i late (hit_start hand p.lane p.quarter))

  -- a planned hit takes place as the hand's side asks
  pub strikes : Strikes built hand since (as_hit p)
  strikes =
      let few = late_few in
      let long = lasts in
      let soon = p.soon in
      let begins = p.begins in
      let early = glider_before r.reach hand p.struck_bounds p.lane p.quarter p.n p.left p.bounds p.j p.is_hit p.is_clear.works p.within in
      let before : p.e + 9 ≤ p.b = omega (arith, ints) in
      record {
        rests = p.rests;
        later = omega arith;
        thrown = omega arith;
        lasts = omega arith;
        inside = λ i h. record { has = λ x y q. in_box_plane p.bounds x y (p.is_hit.inside (i + late) (omega arith) x y (ap (λ (s : Plane). s x y) (sym (struck_runs i)) ∙ q)) };
        ends = p.parts ∙ ap (union built) (sym (struck_runs (p.b + p.n - max p.b since) ∙ ap (λ k. run k (hit_start hand p.lane p.quarter)) (let e : p.b + p.n - max p.b since + late ≡ p.n = omega arith in e) ∙ p.is_hit.ends));
        clear = off_box_apart p.bounds built p.is_clear.near;
        free_hand = λ t h k. coming_apart p.lane p.struck_bounds hand (p.j +ℤ (pos t -ℤ pos p.e)) p.is_hit.fits (rw (← p.is_hit.begins) (omega (arith, ints)));
        free_built = λ t h k. aside_apart p.lane p.quarter built (p.j +ℤ (pos t -ℤ pos p.e)) p.is_clear.lane_free (omega (arith, ints));
      }

pub outruns_apart : (lane j : ℤ) (e : ℕ) (lane' j' : ℤ) (e' : ℕ) (t : ℕ) → Outruns lane j e lane' j' e' →
    Apart (salvo_glider lane (j +ℤ (pos t -ℤ pos e))) (salvo_glider lane' (j' +ℤ (pos t -ℤ pos e')))
outruns_apart lane j e lane' j' e' t o = record {
  far = λ x y u v p q w.
      let a = (salvo_range lane (j +ℤ (pos t -ℤ pos e)) x y p).behind in
      let b = (salvo_range lane' (j' +ℤ (pos t -ℤ pos e')) u v q).ahead in
      let c = o.ahead in
      let right = w.right in let left = w.left in let below = w.below in let above = w.above in
      omega (arith, ints);
}

-- a later planned hit's glider passes an earlier planned hit
pub passes : (r : Rules) (built hand : Plane) (since : ℕ) (p : Planned r built hand since) (built' hand' : Plane) (since' : ℕ) (later : Planned r built' hand' since') →
    p.e < later.e → (as_hit p).finish ≤ since' → Subset built built' → ComesPast p.bounds (as_hit p).finish later.lane later.j later.e →
    Outruns p.lane p.j p.e later.lane later.j later.e → Passes built (as_hit p) (as_hit later)
passes r built hand since p built' hand' since' later after settled grows comes outruns = record {
  after = after;
  free_room = λ t h k. by_time t h k comes;
  free_built = λ t h k. apart_part (aside_apart later.lane later.quarter built' (later.j +ℤ (pos t -ℤ pos later.e)) later.is_clear.lane_free (let begins = later.begins in let soon = later.soon in omega (arith, ints))) grows;
  free_flight = λ t h. outruns_apart p.lane p.j p.e later.lane later.j later.e t outruns;
}
  where
    by_time : (t : ℕ) → later.e ≤ t → t < (as_hit p).finish → ComesPast p.bounds (as_hit p).finish later.lane later.j later.e → Apart (box_plane p.bounds) (flight (as_hit later) t)
    by_time t h k (inl c) = absurd (omega arith)
    by_time t h k (inr c) = coming_apart later.lane p.bounds (box_plane p.bounds) (later.j +ℤ (pos t -ℤ pos later.e)) (box_plane_in p.bounds) (omega (arith, ints))
