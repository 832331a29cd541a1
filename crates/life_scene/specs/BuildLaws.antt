-- A valid construction builds.
use Rattle.std.specs.Prelude.{◌≡◌, ℕ, ◌≤◌, ℤ, pos, ◌+ℤ◌, ◌-ℤ◌, ◌*ℤ◌, ◌≤ℤ◌, List, [], ◌∷◌}
use Rattle.std.proofs.Common.{refl, sym, subst, ap, ◌∙◌, arith, inl, inr}
use Rattle.std.proofs.lemmas.Int.{ints}
use Rattle.std.proofs.lemmas.Bool.{or_cases, or_left, or_right}
use Rattle.life_plane.specs.PlaneLaws.{shift_none, union_none}
use Rattle.life_plane.specs.Plane.{Plane, run, union, shift, nothing}
use Rattle.life_scene.specs.Turns.{Rules, Throw, IsSound, Timed, end, next_due, later, Follows, Passed}
use Rattle.life_scene.specs.Turns.Throw.{Keeps, Throws}
use Rattle.life_scene.specs.ElbowLaws.{throw_reach, scene_at_begin}
use Rattle.life_scene.specs.StreamLaws.{nothing_lives}
use Rattle.life_scene.specs.HandSide.{Hit, Subset, Passes, AllHits, StrikesInTurn, hand_scene}
use Rattle.life_scene.specs.HandLaws.{ThrownAfter, scene_settled, scene_resting, no_flights}
use Rattle.life_scene.specs.Whole.{IsWide, Matches, IsFar, AreFar, core}
use Rattle.life_scene.specs.WholeLaws.{core_after, core_at_end, matches_after, composition}
use Rattle.life_scene.specs.Clearance.{Planned, as_hit}
use Rattle.life_scene.specs.ClearanceLaws.{strikes}
use Rattle.life_scene.specs.ClearanceLaws.{passes, box_is_far}
use Rattle.life_scene.specs.Build.Event.{TurnAlone, TurnWithHit}
use Rattle.life_scene.specs.Build.{Strike, settled, Event, turns_of, lane_at, index_at, hit_of, hits_of, Holds, Past, IsBuild, final_kind, final_at, final_built, final_hand, AreOver, pattern}

pub build_follows : (r : Rules) (kind : Plane) (at : ℤ) (since : ℕ) (from : ℤ) (before : Throw) (built hand : Plane) (hit_since : ℕ) (es : List Event) →
    IsBuild r kind at since from before built hand hit_since es → Follows r kind at since from before (turns_of es)
build_follows r kind at since from before built hand hit_since [] b = b.0
build_follows r kind at since from before built hand hit_since (TurnAlone m ∷ es) b =
    (b.0, build_follows r m.turn.next (at +ℤ m.turn.advance) (end m) (next_due m) m.turn.throw built hand hit_since es b.1.1)
build_follows r kind at since from before built hand hit_since (TurnWithHit m lane j s ∷ es) b =
    (b.0, build_follows r m.turn.next (at +ℤ m.turn.advance) (end m) (next_due m) m.turn.throw s.built s.hand (settled s) es b.1.1.1.1)

pub build_matches : (r : Rules) (kind : Plane) (at : ℤ) (since : ℕ) (from : ℤ) (before : Throw) (built hand : Plane) (hit_since : ℕ) (es : List Event) →
    IsBuild r kind at since from before built hand hit_since es → Matches (turns_of es) (hits_of es hit_since)
build_matches r kind at since from before built hand hit_since [] b = tt
build_matches r kind at since from before built hand hit_since (TurnAlone m ∷ es) b =
    let rest = build_matches r m.turn.next (at +ℤ m.turn.advance) (end m) (next_due m) m.turn.throw built hand hit_since es b.1.1 in
    rw b.1.0 rest
build_matches r kind at since from before built hand hit_since (TurnWithHit m lane j s ∷ es) b =
    let rest = build_matches r m.turn.next (at +ℤ m.turn.advance) (end m) (next_due m) m.turn.throw s.built s.hand (settled s) es b.1.1.1.1 in
    rw b.1.0 (record { lane' = refl; j' = refl; e = refl }, rest)

-- a throw with its hit, as the hand's side plans it
abbrev planned : (r : Rules) (built hand : Plane) (since : ℕ) (m : Timed) (lane j : ℤ) (s : Strike) → IsSound r m.turn → m.turn.throw ≡ Throws lane j → Holds r built hand since m lane j s → Planned r built hand since
planned r built hand since m lane j s sound thrown h = record {
  lane = lane_at m lane;
  j = index_at m j;
  e = end m;
  within = let w = throw_reach r m.turn lane j sound thrown in omega (arith, ints);
  rests = h.rests;
  struck_bounds = s.struck_bounds;
  quarter = s.quarter;
  n = s.n;
  left = s.left;
  bounds = s.bounds;
  is_hit = h.is_hit;
  is_clear = h.is_clear;
  b = s.begin;
  begins = h.begins;
  soon = h.soon;
  built' = s.built;
  hand' = s.hand;
  parts = h.parts;
}

subset_all : {s t r : Plane} → Subset s t → Subset t r → Subset s r
subset_all a b = record { has = λ x y p. b.has x y (a.has x y p) }

-- an earlier hit, and what is known of the events that come later: none starts before this time, by which its glider has passed the reach
record Earlier (r : Rules) (built hand : Plane) (since : ℕ) (p : Planned r built hand since) (from : ℕ) : Type 0 where
  passed : (pos 2 *ℤ r.reach +ℤ pos 8) ≤ℤ (((pos 2 *ℤ p.lane +ℤ p.j) -ℤ pos p.e) +ℤ pos from)
  after : p.e ≤ from

-- the gliders of all later hits pass an earlier hit
all_pass : (r : Rules) (kind : Plane) (at : ℤ) (since : ℕ) (from : ℤ) (before : Throw) (built hand : Plane) (hit_since : ℕ) (es : List Event) (old_built old_hand : Plane) (old_since : ℕ) (p : Planned r old_built old_hand old_since) →
    IsBuild r kind at since from before built hand hit_since es → Earlier r old_built old_hand old_since p since → Subset old_built built → (as_hit p).finish ≤ hit_since →
    AllHits (Past p.bounds (as_hit p).finish) (hits_of es hit_since) → AllHits (Passes old_built (as_hit p)) (hits_of es hit_since)
all_pass r kind at since from before built hand hit_since [] ob oh os p b e sub fin past = tt
all_pass r kind at since from before built hand hit_since (TurnAlone m ∷ es) ob oh os p b e sub fin past =
    let later = b.0.later in let passed = e.passed in let after = e.after in
    all_pass r m.turn.next (at +ℤ m.turn.advance) (end m) (next_due m) m.turn.throw built hand hit_since es ob oh os p b.1.1
    (record { passed = omega (arith, ints); after = omega arith }) sub fin past
all_pass r kind at since from before built hand hit_since (TurnWithHit m lane j s ∷ es) ob oh os p b e sub fin past =
    let later = b.0.later in let passed = e.passed in let after = e.after in let long = b.0.sound.long in
    let q : Planned r built hand hit_since = planned r built hand hit_since m lane j s b.0.sound b.1.0 b.1.1.0 in
    let within = throw_reach r m.turn lane j b.0.sound b.1.0 in
    let soon = b.1.1.0.soon in (
      passes r ob oh os p built hand hit_since q (omega arith) fin sub past.0.past (record { ahead = omega (arith, ints) }),
      all_pass r m.turn.next (at +ℤ m.turn.advance) (end m) (next_due m) m.turn.throw s.built s.hand (settled s) es ob oh os p b.1.1.1.1
          (record { passed = omega (arith, ints); after = omega arith }) (subset_all sub b.1.1.0.grows)
          (let st = strikes r built hand hit_since q in let a = st.later in let c = st.lasts in omega arith) past.1,
    )

-- the first start after a throw is late enough for it to have passed
first_passes : (r : Rules) (m : Timed) (lane j : ℤ) (kind : Plane) (at : ℤ) (from : ℤ) (built hand : Plane) (hit_since : ℕ) (es : List Event) (ob oh : Plane) (os : ℕ) (p : Planned r ob oh os) →
    p.lane ≡ lane_at m lane → p.j ≡ index_at m j → p.e ≡ end m → m.turn.throw ≡ Throws lane j →
    IsBuild r kind at (end m) from m.turn.throw built hand hit_since es → Subset ob built → (as_hit p).finish ≤ hit_since →
    AllHits (Past p.bounds (as_hit p).finish) (hits_of es hit_since) → AllHits (Passes ob (as_hit p)) (hits_of es hit_since)
first_passes r m lane j kind at from built hand hit_since [] ob oh os p el ej ee thrown b sub fin past = tt
first_passes r m lane j kind at from built hand hit_since (TurnAlone m2 ∷ es) ob oh os p el ej ee thrown b sub fin past =
    let later = b.0.later in
    let gone = subst (λ v. Passed r v (end m) m2.start) thrown b.0.passed in
    all_pass r m2.turn.next (at +ℤ m2.turn.advance) (end m2) (next_due m2) m2.turn.throw built hand hit_since es ob oh os p b.1.1
    (record { passed = omega (arith, ints); after = omega arith }) sub fin past
first_passes r m lane j kind at from built hand hit_since (TurnWithHit m2 lane2 j2 s ∷ es) ob oh os p el ej ee thrown b sub fin past =
    let later = b.0.later in let long = b.0.sound.long in
    let gone = subst (λ v. Passed r v (end m) m2.start) thrown b.0.passed in
    let q : Planned r built hand hit_since = planned r built hand hit_since m2 lane2 j2 s b.0.sound b.1.0 b.1.1.0 in
    let within = throw_reach r m2.turn lane2 j2 b.0.sound b.1.0 in (
      passes r ob oh os p built hand hit_since q (omega arith) fin sub past.0.past (record { ahead = omega (arith, ints) }),
      all_pass r m2.turn.next (at +ℤ m2.turn.advance) (end m2) (next_due m2) m2.turn.throw s.built s.hand (settled s) es ob oh os p b.1.1.1.1
          (record { passed = omega (arith, ints); after = omega arith }) (subset_all sub b.1.1.0.grows)
          (let st = strikes r built hand hit_since q in let a = st.later in let c = st.lasts in omega arith) past.1,
    )

pub build_strikes : (r : Rules) (kind : Plane) (at : ℤ) (since : ℕ) (from : ℤ) (before : Throw) (built hand : Plane) (hit_since : ℕ) (es : List Event) →
    IsBuild r kind at since from before built hand hit_since es → StrikesInTurn built hand hit_since (hits_of es hit_since)
build_strikes r kind at since from before built hand hit_since [] b = b.1
build_strikes r kind at since from before built hand hit_since (TurnAlone m ∷ es) b =
    build_strikes r m.turn.next (at +ℤ m.turn.advance) (end m) (next_due m) m.turn.throw built hand hit_since es b.1.1
build_strikes r kind at since from before built hand hit_since (TurnWithHit m lane j s ∷ es) b =
    let q : Planned r built hand hit_since = planned r built hand hit_since m lane j s b.0.sound b.1.0 b.1.1.0 in (
      strikes r built hand hit_since q,
      (
        first_passes r m lane j m.turn.next (at +ℤ m.turn.advance) (next_due m) s.built s.hand (settled s) es built hand hit_since q refl refl refl b.1.0 b.1.1.1.1 b.1.1.0.grows (omega arith) b.1.1.1.0,
        build_strikes r m.turn.next (at +ℤ m.turn.advance) (end m) (next_due m) m.turn.throw s.built s.hand (settled s) es b.1.1.1.1,
      ),
    )

left_is_far : (r : Rules) (built hand : Plane) (since : ℕ) (m : Timed) (lane j : ℤ) (s : Strike) → Holds r built hand since m lane j s → IsFar r built → IsFar r (union s.built s.hand)
left_is_far r built hand since m lane j s h far x y p =
    elim (or_cases (built x y) (s.left x y) (ap (λ (q : Plane). q x y) (sym h.parts) ∙ p)) [
      | inl q ↦ far x y q
      | inr q ↦
          let i = h.is_hit.inside s.n (omega arith) x y (ap (λ (q : Plane). q x y) h.is_hit.ends ∙ q) in
          let l = i.left in let d = i.bottom in let works = h.is_clear.works in record { u = omega (arith, ints) }
    ]

pub build_far : (r : Rules) (kind : Plane) (at : ℤ) (since : ℕ) (from : ℤ) (before : Throw) (built hand : Plane) (hit_since : ℕ) (es : List Event) →
    IsBuild r kind at since from before built hand hit_since es → IsFar r built → IsFar r hand → AreFar r built hand (hits_of es hit_since)
build_far r kind at since from before built hand hit_since [] b fb fh = (fb, fh)
build_far r kind at since from before built hand hit_since (TurnAlone m ∷ es) b fb fh =
    build_far r m.turn.next (at +ℤ m.turn.advance) (end m) (next_due m) m.turn.throw built hand hit_since es b.1.1 fb fh
build_far r kind at since from before built hand hit_since (TurnWithHit m lane j s ∷ es) b fb fh =
    let both = left_is_far r built hand hit_since m lane j s b.1.1.0 fb in (
      fb,
      (
        fh,
        (
          box_is_far r s.bounds b.1.1.0.is_clear.works,
          build_far r m.turn.next (at +ℤ m.turn.advance) (end m) (next_due m) m.turn.throw s.built s.hand (settled s) es b.1.1.1.1
              (λ x y p. both x y (or_left (s.built x y) (s.hand x y) p)) (λ x y p. both x y (or_right (s.built x y) (s.hand x y) p)),
        ),
      ),
    )

elbow_over : (r : Rules) (kind : Plane) (at : ℤ) (es : List Event) (t : ℕ) → AreOver t es → core r kind at (turns_of es) t ≡ shift (final_at at es) (final_at at es) (final_kind kind es)
elbow_over r kind at [] t o = refl
elbow_over r kind at (TurnAlone m ∷ es) t o = core_after r kind at m (turns_of es) t o.0 ∙ elbow_over r m.turn.next (at +ℤ m.turn.advance) es t o.1
elbow_over r kind at (TurnWithHit m lane j s ∷ es) t o = core_after r kind at m (turns_of es) t o.0 ∙ elbow_over r m.turn.next (at +ℤ m.turn.advance) es t o.1.1

hand_over : (r : Rules) (kind : Plane) (at : ℤ) (since : ℕ) (from : ℤ) (before : Throw) (built hand : Plane) (hit_since : ℕ) (es : List Event) (t : ℕ) →
    IsBuild r kind at since from before built hand hit_since es → AreOver t es → hand_scene built hand (hits_of es hit_since) t ≡ union (final_built built es) (final_hand hand es)
hand_over r kind at since from before built hand hit_since [] t b o = refl
hand_over r kind at since from before built hand hit_since (TurnAlone m ∷ es) t b o =
    hand_over r m.turn.next (at +ℤ m.turn.advance) (end m) (next_due m) m.turn.throw built hand hit_since es t b.1.1 o.1
hand_over r kind at since from before built hand hit_since (TurnWithHit m lane j s ∷ es) t b o =
    let q : Planned r built hand hit_since = planned r built hand hit_since m lane j s b.0.sound b.1.0 b.1.1.0 in
    scene_settled built hand (hit_of m lane j s hit_since) (hits_of es (settled s)) t (strikes r built hand hit_since q).lasts o.1.0
    ∙ hand_over r m.turn.next (at +ℤ m.turn.advance) (end m) (next_due m) m.turn.throw s.built s.hand (settled s) es t b.1.1.1.1 o.1.1

elbow_begins : (r : Rules) (kind : Plane) (from : ℤ) (ms : List Timed) → Follows r kind (pos 0) 0 from Keeps ms → core r kind (pos 0) ms 0 ≡ union kind (later r ms 0)
elbow_begins r kind from [] f = shift_none kind ∙ sym (union_none kind)
elbow_begins r kind from (m ∷ ms) f =
    core_at_end r kind (pos 0) 0 from Keeps (m ∷ ms) f ∙ scene_at_begin r kind (pos 0) 0 from Keeps m ms 0 f (omega arith)
    ∙ ap (λ k. union k (later r (m ∷ ms) 0)) (shift_none kind)

hand_begins : (hand : Plane) (hs : List Hit) → StrikesInTurn nothing hand 0 hs → AllHits (ThrownAfter 0) hs → hand_scene nothing hand hs 0 ≡ hand
hand_begins hand [] f a = refl
hand_begins hand (h ∷ hs) f a =
    scene_resting nothing hand h hs 0 (let e = f.0.thrown in omega arith) ∙ ap (union (union nothing hand)) (no_flights 0 (h ∷ hs) a) ∙ union_none (union nothing hand)

-- A valid construction builds: once all its events are over, and the elbow closed and the hand gone, the plane is what was built.
pub construction : (r : Rules) → IsWide r → (kind : Plane) (from : ℤ) (hand : Plane) (es : List Event) (n : ℕ) →
    IsBuild r kind (pos 0) 0 from Keeps nothing hand 0 es → IsFar r hand → AreOver n es → final_kind kind es ≡ nothing → final_hand hand es ≡ nothing →
    run n (pattern r kind hand es) ≡ final_built nothing es
construction r w kind from hand es n b far over closed gone =
    let f = build_follows r kind (pos 0) 0 from Keeps nothing hand 0 es b in
    let g = build_strikes r kind (pos 0) 0 from Keeps nothing hand 0 es b in
    let a = build_matches r kind (pos 0) 0 from Keeps nothing hand 0 es b in
    let late = matches_after r kind (pos 0) 0 from Keeps (turns_of es) (hits_of es 0) f a in
    ap (run n) (ap (λ s. union s hand) (sym (elbow_begins r kind from (turns_of es) f))
    ∙ ap (union (core r kind (pos 0) (turns_of es) 0)) (sym (hand_begins hand (hits_of es 0) g late)))
    ∙ composition r w kind from (turns_of es) nothing hand (hits_of es 0) f g a (build_far r kind (pos 0) 0 from Keeps nothing hand 0 es b (λ x y p. nothing_lives x y p) far) n
    ∙ ap (λ s. union s (hand_scene nothing hand (hits_of es 0) n)) (elbow_over r kind (pos 0) es n over ∙ ap (shift (final_at (pos 0) es) (final_at (pos 0) es)) closed)
    ∙ hand_over r kind (pos 0) 0 from Keeps nothing hand 0 es n b over
    ∙ ap (union (final_built nothing es)) gone ∙ union_none (final_built nothing es)
