-- The composition theorem: the plane is both sides at each moment.
use Rattle.std.specs.Prelude.{◌≡◌, ℕ, zero, suc, ◌+◌, ◌-◌, ◌≤◌, ◌<◌, true, false, ◌||◌, ◌⊎◌, ℤ, pos, ◌+ℤ◌, ◌-ℤ◌, List, [], ◌∷◌, nat_lt, cond}
use Rattle.std.proofs.Common.{refl, sym, subst, ap, ◌∙◌, arith, inl, inr}
use Rattle.std.proofs.lemmas.Int.{ints}
use Rattle.std.proofs.lemmas.Bool.{lt-ltb, le-ltb, cases_lt, or_cases}
use Rattle.std.proofs.Math.Bool.{or-true}
use Rattle.life_plane.specs.PlaneLaws.{union_assoc, union_none, union_swap}
use Rattle.life_plane.specs.Plane.{Plane, step, run, union, shift, nothing}
use Rattle.life_plane.specs.Apart.{Apart}
use Rattle.life_plane.specs.ApartLaws.{step_union}
use Rattle.life_plane.specs.EvolveLaws.{run_shift}
use Rattle.life_plane.specs.Strips.{Each, UAtMost}
use Rattle.life_plane.specs.StripLaws.{apart_by_u, apart_symmetric, apart_union, apart_nothing}
use Rattle.life_scene.specs.Turns.{Rules, Throw, reaction, Timed, end, next_due, later, flying_from, flying, scene, Follows}
use Rattle.life_scene.specs.Turns.Throw.{Keeps, Throws}
use Rattle.life_scene.specs.ElbowLaws.{elbow_side, scene_after, flight_apart, later_narrow}
use Rattle.life_scene.specs.HandSide.{Hit, flight, Subset, AllHits, StrikesInTurn, flights, released, hand_scene}
use Rattle.life_scene.specs.HandLaws.{hand_step, ThrownAfter, map_hits, no_flights, none_released, apart_part, scene_resting, scene_striking, scene_settled}
use Rattle.life_scene.specs.Whole.{core, releases, IsThrown, MatchesThrow, Matches, IsWide, AreFar}

core_as_scene : (r : Rules) (kind : Plane) (at : ℤ) (m : Timed) (ms : List Timed) (t : ℕ) → t < end m → core r kind at (m ∷ ms) t ≡ scene r kind at (m ∷ ms) t
core_as_scene r kind at m ms t h = by_time (cases_lt t m.start)
  where
    by_time : (t < m.start) ⊎ (m.start ≤ t) → core r kind at (m ∷ ms) t ≡ scene r kind at (m ∷ ms) t
    by_time (inl k) = rw (lt-ltb t m.start k) refl
    by_time (inr k) = rw (le-ltb t m.start k, lt-ltb t (end m) h) refl

pub core_after : (r : Rules) (kind : Plane) (at : ℤ) (m : Timed) (ms : List Timed) (t : ℕ) → end m ≤ t → core r kind at (m ∷ ms) t ≡ core r m.turn.next (at +ℤ m.turn.advance) ms t
core_after r kind at m ms t h = rw (le-ltb t m.start (let g : m.start ≤ t = omega arith in g), le-ltb t (end m) h) refl

-- at the end of a turn nothing of what follows has ended
pub core_at_end : (r : Rules) (kind : Plane) (at : ℤ) (since : ℕ) (from : ℤ) (before : Throw) (ms : List Timed) → Follows r kind at since from before ms → core r kind at ms since ≡ scene r kind at ms since
core_at_end r kind at since from before [] f = refl
core_at_end r kind at since from before (m ∷ ms) f = core_as_scene r kind at m ms since (let l = f.0.later in let g = f.0.sound.long in omega arith)

scene_step : (r : Rules) (kind : Plane) (at : ℤ) (since : ℕ) (from : ℤ) (before : Throw) (ms : List Timed) (t : ℕ) → Follows r kind at since from before ms → since ≤ t →
    step (scene r kind at ms t) ≡ scene r kind at ms (t + 1)
scene_step r kind at since from before ms t f h =
    let i : ℕ = t - since in
    let e : t ≡ since + i = omega arith in
    let d : since + suc i ≡ t + 1 = omega arith in
    ap (λ n. step (scene r kind at ms n)) e ∙ ap step (sym (elbow_side r kind at since from before ms i f))
    ∙ elbow_side r kind at since from before ms (suc i) f ∙ ap (scene r kind at ms) d

-- A generation of the elbow and the stream: what they are then, and what is thrown then.
pub core_step : (r : Rules) (kind : Plane) (at : ℤ) (since : ℕ) (from : ℤ) (before : Throw) (ms : List Timed) (t : ℕ) → Follows r kind at since from before ms → since ≤ t →
    step (core r kind at ms t) ≡ union (core r kind at ms (t + 1)) (releases ms (t + 1))
core_step r kind at since from before [] t f h = run_shift 1 at at kind ∙ ap (shift at at) f.still ∙ sym (union_none (shift at at kind))
core_step r kind at since from before (m ∷ ms) t f h =
    by_time (cases_lt t (end m)) (cases_lt (t + 1) (end m)) (λ k. core_step r m.turn.next (at +ℤ m.turn.advance) (end m) (next_due m) m.turn.throw ms t f.1 k)
  where
    by_time : (t < end m) ⊎ (end m ≤ t) → (t + 1 < end m) ⊎ (end m ≤ t + 1) →
        (end m ≤ t → step (core r m.turn.next (at +ℤ m.turn.advance) ms t) ≡ union (core r m.turn.next (at +ℤ m.turn.advance) ms (t + 1)) (releases ms (t + 1))) →
        step (core r kind at (m ∷ ms) t) ≡ union (core r kind at (m ∷ ms) (t + 1)) (releases (m ∷ ms) (t + 1))
    by_time (inl k) (inl l) rest =
        ap step (core_as_scene r kind at m ms t k) ∙ scene_step r kind at since from before (m ∷ ms) t f h
        ∙ sym (core_as_scene r kind at m ms (t + 1) l) ∙ sym (union_none (core r kind at (m ∷ ms) (t + 1)))
        ∙ ap (λ b. union (core r kind at (m ∷ ms) (t + 1)) (λ x y. cond b nothing (cond (nat_lt (end m) (t + 1)) (releases ms (t + 1)) (flying m (t + 1))) x y)) (sym (lt-ltb (t + 1) (end m) l))
    by_time (inl k) (inr l) rest =
        let e : t + 1 ≡ end m = omega arith in
        let none : nat_lt (end m) (end m) ≡ false = le-ltb (end m) (end m) (omega arith) in
        ap step (core_as_scene r kind at m ms t k) ∙ scene_step r kind at since from before (m ∷ ms) t f h
        ∙ ap (scene r kind at (m ∷ ms)) e
        ∙ scene_after r kind at m ms (end m) (omega arith)
        ∙ ap (union (flying m (end m))) (sym (core_at_end r m.turn.next (at +ℤ m.turn.advance) (end m) (next_due m) m.turn.throw ms f.1))
        ∙ union_swap (flying m (end m)) (core r m.turn.next (at +ℤ m.turn.advance) ms (end m))
        ∙ ap (λ s. union s (flying m (end m))) (sym (core_after r kind at m ms (end m) (omega arith)))
        ∙ ap (λ b. union (core r kind at (m ∷ ms) (end m)) (λ x y. cond b nothing (cond b (releases ms (end m)) (flying m (end m))) x y)) (sym none)
        ∙ ap (λ n. union (core r kind at (m ∷ ms) n) (releases (m ∷ ms) n)) (sym e)
    by_time (inr k) l rest =
        let past : nat_lt (t + 1) (end m) ≡ false = le-ltb (t + 1) (end m) (omega arith) in
        let gone : nat_lt (end m) (t + 1) ≡ true = lt-ltb (end m) (t + 1) (omega arith) in
        ap step (core_after r kind at m ms t k) ∙ rest k
        ∙ ap (λ s. union s (releases ms (t + 1))) (sym (core_after r kind at m ms (t + 1) (omega arith)))
        ∙ ap (union (core r kind at (m ∷ ms) (t + 1))) (rw (past, gone) refl)

is_flying : (lane j : ℤ) (m : Timed) (h : Hit) (t : ℕ) → IsThrown lane j m h → flight h t ≡ flying_from (Throws lane j) m.at (pos t -ℤ pos (end m))
is_flying lane j m h t i = rw (i.lane', i.j', i.e) refl

pub matches_after : (r : Rules) (kind : Plane) (at : ℤ) (since : ℕ) (from : ℤ) (before : Throw) (ms : List Timed) (hs : List Hit) →
    Follows r kind at since from before ms → Matches ms hs → AllHits (ThrownAfter since) hs
matches_after r kind at since from before [] [] f a = tt
matches_after r kind at since from before [] (h ∷ hs) f a = absurd a
matches_after r kind at since from before (m ∷ ms) hs f a =
    by_throw m.turn.throw hs a (λ hs b. matches_after r m.turn.next (at +ℤ m.turn.advance) (end m) (next_due m) m.turn.throw ms hs f.1 b)
  where
    sooner : (h : Hit) → ThrownAfter (end m) h → ThrownAfter since h
    sooner h p = record { after = let l = f.0.later in let a = p.after in omega arith }

    by_throw : (v : Throw) (hs : List Hit) → MatchesThrow v m (Matches ms) hs → ((hs : List Hit) → Matches ms hs → AllHits (ThrownAfter (end m)) hs) → AllHits (ThrownAfter since) hs
    by_throw Keeps hs b rest = map_hits {P = ThrownAfter (end m)} sooner hs (rest hs b)
    by_throw (Throws lane j) [] b rest = absurd b
    by_throw (Throws lane j) (h ∷ hs) b rest = (record { after = let l = f.0.later in let g = f.0.sound.long in let e = b.0.e in omega arith }, map_hits {P = ThrownAfter (end m)} sooner hs (rest hs b.1))

after_less : (s t : ℕ) → t ≤ s → (hs : List Hit) → AllHits (ThrownAfter s) hs → AllHits (ThrownAfter t) hs
after_less s t h hs a = map_hits {P = ThrownAfter s} (λ g p. record { after = let q = p.after in omega arith }) hs a

-- what the elbow lets go at a moment is what the hand's side takes over then
releases_match : (r : Rules) (kind : Plane) (at : ℤ) (since : ℕ) (from : ℤ) (before : Throw) (ms : List Timed) (hs : List Hit) (t : ℕ) →
    Follows r kind at since from before ms → Matches ms hs → releases ms t ≡ released hs t
releases_match r kind at since from before [] [] t f a = refl
releases_match r kind at since from before [] (h ∷ hs) t f a = absurd a
releases_match r kind at since from before (m ∷ ms) hs t f a =
    by_throw m.turn.throw refl hs a (λ hs b. releases_match r m.turn.next (at +ℤ m.turn.advance) (end m) (next_due m) m.turn.throw ms hs t f.1 b)
  where
    next_after : (hs : List Hit) → Matches ms hs → AllHits (ThrownAfter (end m)) hs
    next_after hs b = matches_after r m.turn.next (at +ℤ m.turn.advance) (end m) (next_due m) m.turn.throw ms hs f.1 b

    by_time : (v : Throw) → m.turn.throw ≡ v → (hs : List Hit) → (t < end m) ⊎ (end m ≤ t) → (end m < t) ⊎ (t ≤ end m) →
        MatchesThrow v m (Matches ms) hs → ((hs : List Hit) → Matches ms hs → releases ms t ≡ released hs t) → releases (m ∷ ms) t ≡ released hs t
    by_time Keeps e hs (inl k) l b rest = rw (lt-ltb t (end m) k) (sym (none_released t hs (after_less (end m) t (omega arith) hs (next_after hs b))))
    by_time Keeps e hs (inr k) (inl l) b rest = rw (le-ltb t (end m) k, lt-ltb (end m) t l) (rest hs b)
    by_time Keeps e hs (inr k) (inr l) b rest =
        rw (le-ltb t (end m) k, le-ltb (end m) t l) (ap (λ v. flying_from v m.at (pos t -ℤ pos (end m))) e ∙ sym (none_released t hs (after_less (end m) t l hs (next_after hs b))))
    by_time (Throws lane j) e [] k l b rest = absurd b
    by_time (Throws lane j) e (h ∷ hs) (inl k) l b rest = rw (lt-ltb t (end m) k, ap (nat_lt t) b.0.e ∙ lt-ltb t (end m) k) refl
    by_time (Throws lane j) e (h ∷ hs) (inr k) (inl l) b rest =
        rw (le-ltb t (end m) k, lt-ltb (end m) t l, ap (nat_lt t) b.0.e ∙ le-ltb t (end m) k, ap (λ n. nat_lt n t) b.0.e ∙ lt-ltb (end m) t l) (rest hs b.1)
    by_time (Throws lane j) e (h ∷ hs) (inr k) (inr l) b rest =
        rw (le-ltb t (end m) k, le-ltb (end m) t l, ap (nat_lt t) b.0.e ∙ le-ltb t (end m) k, ap (λ n. nat_lt n t) b.0.e ∙ le-ltb (end m) t l)
        (ap (λ v. flying_from v m.at (pos t -ℤ pos (end m))) e ∙ sym (is_flying lane j m h t b.0))

    by_throw : (v : Throw) → m.turn.throw ≡ v → (hs : List Hit) → MatchesThrow v m (Matches ms) hs → ((hs : List Hit) → Matches ms hs → releases ms t ≡ released hs t) → releases (m ∷ ms) t ≡ released hs t
    by_throw v e hs b rest = by_time v e hs (cases_lt t (end m)) (cases_lt (end m) t) b rest

union_has_right : (s t : Plane) → Subset t (union s t)
union_has_right s t = record { has = λ x y p. ap (λ b. s x y || b) p ∙ or-true (s x y) }

-- the scene has the core and the flights beside it
core_in_scene : (r : Rules) (kind : Plane) (at : ℤ) (ms : List Timed) (t : ℕ) → Subset (core r kind at ms t) (scene r kind at ms t)
core_in_scene r kind at [] t = record { has = λ x y p. p }
core_in_scene r kind at (m ∷ ms) t = by_time (cases_lt t (end m)) (core_in_scene r m.turn.next (at +ℤ m.turn.advance) ms t)
  where
    by_time : (t < end m) ⊎ (end m ≤ t) → Subset (core r m.turn.next (at +ℤ m.turn.advance) ms t) (scene r m.turn.next (at +ℤ m.turn.advance) ms t) → Subset (core r kind at (m ∷ ms) t) (scene r kind at (m ∷ ms) t)
    by_time (inl k) rest = record { has = λ x y p. ap (λ (s : Plane). s x y) (sym (core_as_scene r kind at m ms t k)) ∙ p }
    by_time (inr k) rest = record {
      has = λ x y p.
          ap (λ (s : Plane). s x y) (scene_after r kind at m ms t k)
          ∙ (union_has_right (flying m t) (scene r m.turn.next (at +ℤ m.turn.advance) ms t)).has x y (rest.has x y (ap (λ (s : Plane). s x y) (sym (core_after r kind at m ms t k)) ∙ p));
    }

apart_from_part : {s t r : Plane} → Apart r s → Subset t s → Apart r t
apart_from_part h sub = apart_symmetric (apart_part (apart_symmetric h) sub)

-- the elbow and the stream are apart from every glider in flight
core_away : (r : Rules) (kind : Plane) (at : ℤ) (since : ℕ) (from : ℤ) (before : Throw) (ms : List Timed) (hs : List Hit) (t : ℕ) →
    Follows r kind at since from before ms → Matches ms hs → Apart (core r kind at ms t) (flights hs t)
core_away r kind at since from before [] [] t f a = apart_nothing (core r kind at [] t)
core_away r kind at since from before [] (h ∷ hs) t f a = absurd a
core_away r kind at since from before (m ∷ ms) hs t f a =
    by_time (cases_lt t (end m)) m.turn.throw refl hs a (λ hs b. core_away r m.turn.next (at +ℤ m.turn.advance) (end m) (next_due m) m.turn.throw ms hs t f.1 b)
  where
    next_after : (hs : List Hit) → Matches ms hs → AllHits (ThrownAfter (end m)) hs
    next_after hs b = matches_after r m.turn.next (at +ℤ m.turn.advance) (end m) (next_due m) m.turn.throw ms hs f.1 b

    by_time : (t < end m) ⊎ (end m ≤ t) → (v : Throw) → m.turn.throw ≡ v → (hs : List Hit) → MatchesThrow v m (Matches ms) hs →
        ((hs : List Hit) → Matches ms hs → Apart (core r m.turn.next (at +ℤ m.turn.advance) ms t) (flights hs t)) → Apart (core r kind at (m ∷ ms) t) (flights hs t)
    by_time (inl k) Keeps e hs b rest = rw (no_flights t hs (after_less (end m) t (omega arith) hs (next_after hs b))) (apart_nothing (core r kind at (m ∷ ms) t))
    by_time (inr k) Keeps e hs b rest = rw (core_after r kind at m ms t k) (rest hs b)
    by_time k (Throws lane j) e [] b rest = absurd b
    by_time (inl k) (Throws lane j) e (h ∷ hs) b rest = rw (ap (nat_lt t) b.0.e ∙ lt-ltb t (end m) k) (apart_nothing (core r kind at (m ∷ ms) t))
    by_time (inr k) (Throws lane j) e (h ∷ hs) b rest =
        let own : flying m t ≡ flight h t = ap (λ v. flying_from v m.at (pos t -ℤ pos (end m))) e ∙ sym (is_flying lane j m h t b.0) in
        let aside : Apart (core r m.turn.next (at +ℤ m.turn.advance) ms t) (flight h t) =
        apart_part (apart_symmetric (subst (λ s. Apart s (scene r m.turn.next (at +ℤ m.turn.advance) ms t)) own (flight_apart r kind at since from before m ms t f k))) (core_in_scene r m.turn.next (at +ℤ m.turn.advance) ms t) in
        rw (core_after r kind at m ms t k, ap (nat_lt t) b.0.e ∙ le-ltb t (end m) k) (apart_union aside (rest hs b.1))

core_within : (r : Rules) → IsWide r → (kind : Plane) (at : ℤ) (since : ℕ) (from : ℤ) (before : Throw) (ms : List Timed) (t : ℕ) →
    Follows r kind at since from before ms → Each (UAtMost r.reach) (core r kind at ms t)
core_within r w kind at since from before [] t f x y p = let u = (f.wall (x -ℤ at) (y -ℤ at) p).u in let past = w.past in record { u = omega (arith, ints) }
core_within r w kind at since from before (m ∷ ms) t f x y p =
    by_time (cases_lt t m.start) (cases_lt t (end m)) (core_within r w m.turn.next (at +ℤ m.turn.advance) (end m) (next_due m) m.turn.throw ms t f.1 x y)
  where
    slow : (ns : List Timed) → later r ns t x y ≡ true → UAtMost r.reach x y
    slow ns q = let u = (later_narrow r ns t x y q).u in let wide = r.wide in let past = w.past in record { u = omega (arith, ints) }

    waits : shift at at kind x y ≡ true → UAtMost r.reach x y
    waits q = let u = (f.0.valid.wall (x -ℤ at) (y -ℤ at) q).u in let past = w.past in record { u = omega (arith, ints) }

    reacts : m.start ≤ t → t < end m → shift at at (run (t - m.start) (reaction r m.turn)) x y ≡ true → UAtMost r.reach x y
    reacts k l q = let u = (f.0.sound.reach (t - m.start) (omega arith) (x -ℤ at) (y -ℤ at) q).u in record { u = omega (arith, ints) }

    by_time : (t < m.start) ⊎ (m.start ≤ t) → (t < end m) ⊎ (end m ≤ t) → (core r m.turn.next (at +ℤ m.turn.advance) ms t x y ≡ true → UAtMost r.reach x y) → UAtMost r.reach x y
    by_time (inl k) l rest =
        let e : core r kind at (m ∷ ms) t ≡ union (shift at at kind) (later r (m ∷ ms) t) = rw (lt-ltb t m.start k) refl in
        elim (or_cases (shift at at kind x y) (later r (m ∷ ms) t x y) (ap (λ (s : Plane). s x y) (sym e) ∙ p)) [ inl q ↦ waits q | inr q ↦ slow (m ∷ ms) q ]
    by_time (inr k) (inl l) rest =
        let e : core r kind at (m ∷ ms) t ≡ union (shift at at (run (t - m.start) (reaction r m.turn))) (later r ms t) = rw (le-ltb t m.start k, lt-ltb t (end m) l) refl in
        elim (or_cases (shift at at (run (t - m.start) (reaction r m.turn)) x y) (later r ms t x y) (ap (λ (s : Plane). s x y) (sym e) ∙ p)) [ inl q ↦ reacts k l q | inr q ↦ slow ms q ]
    by_time (inr k) (inr l) rest = rest (ap (λ (s : Plane). s x y) (sym (core_after r kind at m ms t l)) ∙ p)

hand_away : (r : Rules) (s built hand : Plane) (since : ℕ) (hs : List Hit) (t : ℕ) → Each (UAtMost r.reach) s → Apart s (flights hs t) → AreFar r built hand hs → StrikesInTurn built hand since hs →
    Apart s (hand_scene built hand hs t)
hand_away r s built hand since [] t w a far f = apart_union (apart_by_u r.reach s built w far.0) (apart_by_u r.reach s hand w far.1)
hand_away r s built hand since (h ∷ hs) t w a far f =
    by_time (cases_lt t h.join) (cases_lt t h.finish) (λ k. hand_away r s h.built h.hand h.finish hs t w (rest_away k) far.1.1.1 f.1.1)
  where
    rest_away : h.join ≤ t → Apart s (flights hs t)
    rest_away k =
        let thrown = f.0.thrown in
        let e : flights (h ∷ hs) t ≡ union (flight h t) (flights hs t) = rw (le-ltb t h.e (let g : h.e ≤ t = omega arith in g)) refl in
        apart_from_part (subst (Apart s) e a) (union_has_right (flight h t) (flights hs t))

    by_time : (t < h.join) ⊎ (h.join ≤ t) → (t < h.finish) ⊎ (h.finish ≤ t) → (h.join ≤ t → Apart s (hand_scene h.built h.hand hs t)) → Apart s (hand_scene built hand (h ∷ hs) t)
    by_time (inl k) l rest = rw (scene_resting built hand h hs t k) (apart_union (apart_union (apart_by_u r.reach s built w far.0) (apart_by_u r.reach s hand w far.1.0)) a)
    by_time (inr k) (inl l) rest =
        rw (scene_striking built hand h hs t k l)
        (apart_union (apart_union (apart_by_u r.reach s built w far.0) (apart_from_part (apart_by_u r.reach s h.room w far.1.1.0) (f.0.inside (t - h.join) (omega arith)))) (rest_away k))
    by_time (inr k) (inr l) rest = rw (scene_settled built hand h hs t f.0.lasts l) (rest k)

-- The composition theorem: from the elbow, the stream and the hand, the plane is both sides at each moment.
pub composition : (r : Rules) → IsWide r → (kind : Plane) (from : ℤ) (ms : List Timed) (built hand : Plane) (hs : List Hit) →
    Follows r kind (pos 0) 0 from Keeps ms → StrikesInTurn built hand 0 hs → Matches ms hs → AreFar r built hand hs →
    (t : ℕ) → run t (union (core r kind (pos 0) ms 0) (hand_scene built hand hs 0)) ≡ union (core r kind (pos 0) ms t) (hand_scene built hand hs t)
composition r w kind from ms built hand hs f g a far zero = refl
composition r w kind from ms built hand hs f g a far (suc t) =
    let aside : Apart (core r kind (pos 0) ms t) (hand_scene built hand hs t) =
    hand_away r (core r kind (pos 0) ms t) built hand 0 hs t (core_within r w kind (pos 0) 0 from Keeps ms t f) (core_away r kind (pos 0) 0 from Keeps ms hs t f a) far g in
    let one : suc t ≡ t + 1 = omega arith in
    ap step (composition r w kind from ms built hand hs f g a far t)
    ∙ step_union (core r kind (pos 0) ms t) (hand_scene built hand hs t) aside
    ∙ ap (λ s. union s (step (hand_scene built hand hs t))) (core_step r kind (pos 0) 0 from Keeps ms t f (omega arith) ∙ ap (union (core r kind (pos 0) ms (t + 1))) (releases_match r kind (pos 0) 0 from Keeps ms hs (t + 1) f a))
    ∙ union_assoc (core r kind (pos 0) ms (t + 1)) (released hs (t + 1)) (step (hand_scene built hand hs t))
    ∙ ap (union (core r kind (pos 0) ms (t + 1))) (union_swap (released hs (t + 1)) (step (hand_scene built hand hs t)) ∙ hand_step built hand 0 hs t g (omega arith))
    ∙ ap (λ n. union (core r kind (pos 0) ms n) (hand_scene built hand hs n)) (sym one)
