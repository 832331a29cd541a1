-- A generation of the hand's side makes its next moment.
use Rattle.std.specs.Prelude.{◌≡◌, ℕ, zero, suc, ◌+◌, ◌-◌, ◌≤◌, ◌<◌, true, false, Bool, ◌||◌, ◌⊎◌, pos, ◌+ℤ◌, ◌-ℤ◌, List, [], ◌∷◌, nat_lt, cond}
use Rattle.std.proofs.Common.{refl, sym, ap, ◌∙◌, arith, inl, inr}
use Rattle.std.proofs.lemmas.Int.{ints}
use Rattle.std.proofs.lemmas.Bool.{lt-ltb, le-ltb, cases_lt}
use Rattle.std.proofs.Math.Bool.{or_assoc}
use Rattle.life_plane.specs.PlaneLaws.{union_assoc, union_none}
use Rattle.life_plane.specs.Plane.{Plane, step, run, union, nothing, same_plane}
use Rattle.life_plane.specs.Apart.{Apart}
use Rattle.life_plane.specs.ApartLaws.{step_union}
use Rattle.life_plane.specs.Salvo.{salvo_glider}
use Rattle.life_plane.specs.SalvoLaws.{step_salvo}
use Rattle.life_plane.specs.StripLaws.{apart_symmetric, apart_union, apart_nothing}
use Rattle.life_scene.specs.StreamLaws.{run_nothing}
use Rattle.life_scene.specs.HandSide.{Hit, flight, Subset, Rests, struck, Strikes, Passes, AllHits, StrikesInTurn, flights, released, hand_scene}

pub map_hits : {P Q : Hit → Type 0} → ((h : Hit) → P h → Q h) → (hs : List Hit) → AllHits P hs → AllHits Q hs
map_hits f [] a = tt
map_hits f (h ∷ hs) a = (f h a.0, map_hits f hs a.1)

-- later than a time
pub record ThrownAfter (t : ℕ) (h : Hit) : Type 0 where
  pub after : t < h.e

pub no_flights : (t : ℕ) (hs : List Hit) → AllHits (ThrownAfter t) hs → flights hs t ≡ nothing
no_flights t [] a = refl
no_flights t (h ∷ hs) a = rw (lt-ltb t h.e a.0.after) refl

pub none_released : (t : ℕ) (hs : List Hit) → AllHits (ThrownAfter t) hs → released hs t ≡ nothing
none_released t [] a = refl
none_released t (h ∷ hs) a = rw (lt-ltb t h.e a.0.after) refl

-- apart from each glider in flight
pub record Away (s : Plane) (t : ℕ) (h : Hit) : Type 0 where
  pub away : h.e ≤ t → Apart s (flight h t)

away_flights : (s : Plane) (t : ℕ) (hs : List Hit) → AllHits (Away s t) hs → Apart s (flights hs t)
away_flights s t [] a = apart_nothing s
away_flights s t (h ∷ hs) a = by_time (cases_lt t h.e) (away_flights s t hs a.1)
  where
    by_time : (t < h.e) ⊎ (h.e ≤ t) → Apart s (flights hs t) → Apart s (flights (h ∷ hs) t)
    by_time (inl k) rest = rw (lt-ltb t h.e k) (apart_nothing s)
    by_time (inr k) rest = rw (le-ltb t h.e k) (apart_union (a.0.away k) rest)

thrown_in_order : (built hand : Plane) (since : ℕ) (h : Hit) (hs : List Hit) → StrikesInTurn built hand since (h ∷ hs) → AllHits (ThrownAfter h.e) hs
thrown_in_order built hand since h hs f = map_hits {P = Passes built h} (λ g p. record { after = p.after }) hs f.1.0

step_flight : (h : Hit) (t : ℕ) → step (flight h t) ≡ flight h (t + 1)
step_flight h t = step_salvo h.lane (h.j +ℤ (pos t -ℤ pos h.e)) ∙ ap (salvo_glider h.lane) (let e : (h.j +ℤ (pos t -ℤ pos h.e)) +ℤ pos 1 ≡ h.j +ℤ (pos (t + 1) -ℤ pos h.e) = omega (arith, ints) in e)

-- a generation moves the flights on, and those thrown then join them
flights_step : (built hand : Plane) (since : ℕ) (hs : List Hit) (t : ℕ) → StrikesInTurn built hand since hs →
    union (step (flights hs t)) (released hs (t + 1)) ≡ flights hs (t + 1)
flights_step built hand since [] t f = ap (λ s. union s nothing) (run_nothing 1)
flights_step built hand since (h ∷ hs) t f =
    by_time (cases_lt t h.e) (cases_lt (t + 1) h.e) (flights_step h.built h.hand h.finish hs t f.1.1)
  where
    order : AllHits (ThrownAfter h.e) hs
    order = thrown_in_order built hand since h hs f

    by_time : (t < h.e) ⊎ (h.e ≤ t) → (t + 1 < h.e) ⊎ (h.e ≤ t + 1) → union (step (flights hs t)) (released hs (t + 1)) ≡ flights hs (t + 1) →
        union (step (flights (h ∷ hs) t)) (released (h ∷ hs) (t + 1)) ≡ flights (h ∷ hs) (t + 1)
    by_time (inl k) (inl l) rest = rw (lt-ltb t h.e k, lt-ltb (t + 1) h.e l) (ap (λ s. union s nothing) (run_nothing 1))
    by_time (inl k) (inr l) rest =
        let now : h.e ≡ t + 1 = omega arith in
        let none : flights hs (t + 1) ≡ nothing = no_flights (t + 1) hs (rw now at order) in
        let here : nat_lt h.e (t + 1) ≡ false = le-ltb h.e (t + 1) (omega arith) in
        rw (lt-ltb t h.e k, le-ltb (t + 1) h.e l, here, none) (ap (λ s. union s (flight h (t + 1))) (run_nothing 1) ∙ sym (union_none (flight h (t + 1))))
    by_time (inr k) l rest =
        let aside : Apart (flight h t) (flights hs t) = away_flights (flight h t) t hs (map_hits {P = Passes built h} (λ g p. record { away = λ q. p.free_flight t q }) hs f.1.0) in
        let past : nat_lt (t + 1) h.e ≡ false = le-ltb (t + 1) h.e (omega arith) in
        let gone : nat_lt h.e (t + 1) ≡ true = lt-ltb h.e (t + 1) (omega arith) in
        rw (le-ltb t h.e k, past, gone)
        (ap (λ s. union s (released hs (t + 1))) (step_union (flight h t) (flights hs t) aside ∙ ap (λ s. union s (step (flights hs t))) (step_flight h t))
        ∙ union_assoc (flight h (t + 1)) (step (flights hs t)) (released hs (t + 1)) ∙ ap (union (flight h (t + 1))) rest)

-- a part of what is apart is apart
pub apart_part : {s t r : Plane} → Apart s r → Subset t s → Apart t r
apart_part {s} {t} {r} h sub = record { far = λ x y a b p q w. h.far x y a b (sub.has x y p) q w }

rest_in_room : (built hand : Plane) (since : ℕ) (h : Hit) → Strikes built hand since h → Subset hand h.room
rest_in_room built hand since h f = record { has = λ x y p. (f.inside 0 (let l = f.lasts in omega arith)).has x y (ap (λ b. b || flight h h.join x y) p) }

-- before a hit, what stands is away from every glider in flight
standing_away : (built hand : Plane) (since : ℕ) (h : Hit) (hs : List Hit) (t : ℕ) → StrikesInTurn built hand since (h ∷ hs) → t < h.join →
    Apart (union built hand) (flights (h ∷ hs) t)
standing_away built hand since h hs t f k =
    away_flights (union built hand) t (h ∷ hs) (
      record { away = λ q. both (f.0.free_built t q k) (f.0.free_hand t q k) },
      map_hits {P = Passes built h} (λ g p. record { away = λ q. both (p.free_built t q (omega arith)) (apart_part (p.free_room t q (omega arith)) (rest_in_room built hand since h f.0)) }) hs f.1.0,
    )
  where
    both : {s t r : Plane} → Apart s r → Apart t r → Apart (union s t) r
    both a b = apart_symmetric (apart_union (apart_symmetric a) (apart_symmetric b))

-- during a hit, what stands and the hit are away from every later glider
striking_away : (built hand : Plane) (since : ℕ) (h : Hit) (hs : List Hit) (t : ℕ) → StrikesInTurn built hand since (h ∷ hs) → h.join ≤ t → t < h.finish →
    Apart (union built (run (t - h.join) (struck hand h))) (flights hs t)
striking_away built hand since h hs t f k l =
    away_flights (union built (run (t - h.join) (struck hand h))) t hs
    (map_hits {P = Passes built h} (λ g p. record { away = λ q. both (p.free_built t q l) (apart_part (p.free_room t q l) (f.0.inside (t - h.join) (omega arith))) }) hs f.1.0)
  where
    both : {s t r : Plane} → Apart s r → Apart t r → Apart (union s t) r
    both a b = apart_symmetric (apart_union (apart_symmetric a) (apart_symmetric b))

pub scene_resting : (built hand : Plane) (h : Hit) (hs : List Hit) (t : ℕ) → t < h.join → hand_scene built hand (h ∷ hs) t ≡ union (union built hand) (flights (h ∷ hs) t)
scene_resting built hand h hs t k = rw (lt-ltb t h.join k) refl

pub scene_striking : (built hand : Plane) (h : Hit) (hs : List Hit) (t : ℕ) → h.join ≤ t → t < h.finish →
    hand_scene built hand (h ∷ hs) t ≡ union (union built (run (t - h.join) (struck hand h))) (flights hs t)
scene_striking built hand h hs t k l = rw (le-ltb t h.join k, lt-ltb t h.finish l) refl

pub scene_settled : (built hand : Plane) (h : Hit) (hs : List Hit) (t : ℕ) → h.join < h.finish → h.finish ≤ t → hand_scene built hand (h ∷ hs) t ≡ hand_scene h.built h.hand hs t
scene_settled built hand h hs t j k = rw (le-ltb t h.join (let g : h.join ≤ t = omega arith in g), le-ltb t h.finish k) refl

-- at any moment up to the join
scene_at_rest : (built hand : Plane) (since : ℕ) (h : Hit) (hs : List Hit) (t : ℕ) → StrikesInTurn built hand since (h ∷ hs) → t ≤ h.join →
    hand_scene built hand (h ∷ hs) t ≡ union (union built hand) (flights (h ∷ hs) t)
scene_at_rest built hand since h hs t f k = by_time (cases_lt t h.join)
  where
    four : (a b c d : Bool) → ((a || (b || c)) || d) ≡ ((a || b) || (c || d))
    four true b c d = refl
    four false b c d = or_assoc b c d

    regroup : union (union built (struck hand h)) (flights hs h.join) ≡ union (union built hand) (union (flight h h.join) (flights hs h.join))
    regroup = same_plane _ _ (λ x y. four (built x y) (hand x y) (flight h h.join x y) (flights hs h.join x y))

    by_time : (t < h.join) ⊎ (h.join ≤ t) → hand_scene built hand (h ∷ hs) t ≡ union (union built hand) (flights (h ∷ hs) t)
    by_time (inl l) = scene_resting built hand h hs t l
    by_time (inr l) =
        let e : t ≡ h.join = omega arith in
        let lasts = f.0.lasts in
        let thrown = f.0.thrown in
        let none : h.join - h.join ≡ zero = omega arith in
        let up : nat_lt h.join h.e ≡ false = le-ltb h.join h.e (omega arith) in
        ap (hand_scene built hand (h ∷ hs)) e
        ∙ scene_striking built hand h hs h.join (omega arith) (omega arith)
        ∙ ap (λ n. union (union built (run n (struck hand h))) (flights hs h.join)) none
        ∙ regroup
        ∙ ap (λ b. union (union built hand) (λ x y. cond b nothing (union (flight h h.join) (flights hs h.join)) x y)) (sym up)
        ∙ ap (λ t. union (union built hand) (flights (h ∷ hs) t)) (sym e)

settled_then : (built hand : Plane) (since : ℕ) (hs : List Hit) → StrikesInTurn built hand since hs → hand_scene built hand hs since ≡ union (union built hand) (flights hs since)
settled_then built hand since [] f = sym (union_none (union built hand))
settled_then built hand since (h ∷ hs) f = scene_at_rest built hand since h hs since f f.0.later

step_rests : (built hand : Plane) → Rests built hand → step (union built hand) ≡ union built hand
step_rests built hand f = step_union built hand f.apart ∙ ap (λ s. union s (step hand)) f.built_still ∙ ap (union built) f.hand_still

still_all : (hs : List Hit) (built hand : Plane) (since : ℕ) → StrikesInTurn built hand since hs → Rests built hand
still_all [] built hand since f = f
still_all (h ∷ hs) built hand since f = f.0.rests

-- A generation of the hand's side: with the gliders thrown then it is the scene a generation on.
pub hand_step : (built hand : Plane) (since : ℕ) (hs : List Hit) (t : ℕ) → StrikesInTurn built hand since hs → since ≤ t →
    union (step (hand_scene built hand hs t)) (released hs (t + 1)) ≡ hand_scene built hand hs (t + 1)
hand_step built hand since [] t f g = union_none (step (union built hand)) ∙ step_rests built hand f
hand_step built hand since (h ∷ hs) t f g =
    by_time (cases_lt t h.join) (cases_lt t h.finish) (cases_lt (t + 1) h.finish) (λ k. hand_step h.built h.hand h.finish hs t f.1.1 k)
  where
    moved : (s : Plane) (a b c : Plane) → Apart s a → union (step (union s a)) b ≡ union (step s) (union (step a) b)
    moved s a b c h = ap (λ p. union p b) (step_union s a h) ∙ union_assoc (step s) (step a) b

    released_on : h.e < t + 1 → released (h ∷ hs) (t + 1) ≡ released hs (t + 1)
    released_on k = rw (le-ltb (t + 1) h.e (let l : h.e ≤ t + 1 = omega arith in l), lt-ltb h.e (t + 1) k) refl

    resting : t < h.join → union (step (hand_scene built hand (h ∷ hs) t)) (released (h ∷ hs) (t + 1)) ≡ hand_scene built hand (h ∷ hs) (t + 1)
    resting k =
        ap (λ s. union (step s) (released (h ∷ hs) (t + 1))) (scene_resting built hand h hs t k)
        ∙ moved (union built hand) (flights (h ∷ hs) t) (released (h ∷ hs) (t + 1)) nothing (standing_away built hand since h hs t f k)
        ∙ ap (λ s. union s (union (step (flights (h ∷ hs) t)) (released (h ∷ hs) (t + 1)))) (step_rests built hand f.0.rests)
        ∙ ap (union (union built hand)) (flights_step built hand since (h ∷ hs) t f)
        ∙ sym (scene_at_rest built hand since h hs (t + 1) f (omega arith))

    one_more : h.join ≤ t → t + 1 - h.join ≡ suc (t - h.join)
    one_more k = omega arith

    struck_on : h.join ≤ t → t < h.finish → union (step (hand_scene built hand (h ∷ hs) t)) (released (h ∷ hs) (t + 1)) ≡ union (union built (run (t + 1 - h.join) (struck hand h))) (flights hs (t + 1))
    struck_on k l =
        let thrown = f.0.thrown in
        let inside : Subset (run (t - h.join) (struck hand h)) h.room = f.0.inside (t - h.join) (omega arith) in
        ap (λ s. union (step s) (released (h ∷ hs) (t + 1))) (scene_striking built hand h hs t k l)
        ∙ ap (union (step (union (union built (run (t - h.join) (struck hand h))) (flights hs t)))) (released_on (omega arith))
        ∙ moved (union built (run (t - h.join) (struck hand h))) (flights hs t) (released hs (t + 1)) nothing (striking_away built hand since h hs t f k l)
        ∙ ap (λ s. union s (union (step (flights hs t)) (released hs (t + 1))))
        (step_union built (run (t - h.join) (struck hand h)) (apart_symmetric (apart_part (apart_symmetric f.0.clear) inside))
        ∙ ap (λ s. union s (run (suc (t - h.join)) (struck hand h))) f.0.rests.built_still
        ∙ ap (λ n. union built (run n (struck hand h))) (sym (one_more k)))
        ∙ ap (union (union built (run (t + 1 - h.join) (struck hand h)))) (flights_step h.built h.hand h.finish hs t f.1.1)

    by_time : (t < h.join) ⊎ (h.join ≤ t) → (t < h.finish) ⊎ (h.finish ≤ t) → (t + 1 < h.finish) ⊎ (h.finish ≤ t + 1) →
        (h.finish ≤ t → union (step (hand_scene h.built h.hand hs t)) (released hs (t + 1)) ≡ hand_scene h.built h.hand hs (t + 1)) →
        union (step (hand_scene built hand (h ∷ hs) t)) (released (h ∷ hs) (t + 1)) ≡ hand_scene built hand (h ∷ hs) (t + 1)
    by_time (inl k) l m rest = resting k
    by_time (inr k) (inl l) (inl m) rest = struck_on k l ∙ sym (scene_striking built hand h hs (t + 1) (omega arith) m)
    by_time (inr k) (inl l) (inr m) rest =
        let e : t + 1 ≡ h.finish = omega arith in
        struck_on k l
        ∙ ap (λ n. union (union built (run (n - h.join) (struck hand h))) (flights hs n)) e
        ∙ ap (λ s. union s (flights hs h.finish)) (sym f.0.ends)
        ∙ sym (settled_then h.built h.hand h.finish hs f.1.1)
        ∙ sym (scene_settled built hand h hs h.finish f.0.lasts (omega arith))
        ∙ ap (hand_scene built hand (h ∷ hs)) (sym e)
    by_time (inr k) (inr l) m rest =
        let thrown = f.0.thrown in
        ap (λ s. union (step s) (released (h ∷ hs) (t + 1))) (scene_settled built hand h hs t f.0.lasts l)
        ∙ ap (union (step (hand_scene h.built h.hand hs t))) (released_on (omega arith))
        ∙ rest l ∙ sym (scene_settled built hand h hs (t + 1) f.0.lasts (omega arith))
