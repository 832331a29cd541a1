-- A sound turn of a book is one for the composition theorem.
use Rattle.std.specs.Prelude.{◌≡◌, ◌⊎◌, true, ℕ, ◌+◌, ◌≤◌, ℤ, pos, negsuc, ◌+ℤ◌, ◌-ℤ◌, ◌*ℤ◌, ◌≤ℤ◌, ◌<ℤ◌, List, [], ◌∷◌, map, unsigned_abs}
use Rattle.std.proofs.Common.{refl, sym, ap, subst, ◌∙◌, arith, inl, inr}
use Rattle.std.proofs.lemmas.Int.{ints}
use Rattle.life_plane.specs.PlaneLaws.{union_none}
use Rattle.life_scene.specs.StreamLaws.{step_nothing}
use Rattle.life_plane.specs.Plane.{Plane, nothing, union, shift, run}
use Rattle.life_plane.specs.Tracks.{gap, stream_glider}
use Rattle.life_plane.specs.Strips.{VAtLeast}
use Rattle.life_scene.specs.Stream.{coming, Spaced, Before}
use Rattle.life_scene.specs.Turns as scene
use Rattle.life_scene.specs.Turns.Throw.{Keeps, Throws}
use Rattle.book_parts.specs.declared.settings.Settings.{Settings}
use Rattle.book_parts.specs.declared.kind.RawKind.{RawKind}
use Rattle.book_parts.specs.declared.turn.RawTurn.{RawTurn}
use Rattle.book_parts.specs.declared.turn.TurnEnd.{TurnEnd}
use Rattle.book_parts.specs.declared.turn.TurnEnd.TheVariants.{Close, Move, Emit}
use Rattle.book_parts.specs.Limits.{AreProper}
use Rattle.recipe_turn.specs.Kind.{IsValidKind}
use Rattle.recipe_turn.specs.QuarterLaws.{quarters_below}
use Rattle.recipe_turn.specs.Turn.{IsSound, AreSpaced, AreSpacedFrom, gliders, turn_start, turn_end, IsInFront}
use Rattle.event_times.specs.TimedTurns.{Timed, advance_of}
use Rattle.event_times.specs.Events.{turn_gliders}
use Rattle.book_parts.specs.Kinds.{kind_plane, next_plane}
use Rattle.event_times.specs.SceneTurns.{Half, half_approach, rules, throw_of, framed, placed}

-- a delay that isn't negative
pub natural : (z : ℤ) → pos 0 ≤ℤ z → z ≡ pos (unsigned_abs z)
natural (pos n) h = refl
natural (negsuc n) h = absurd (omega (arith, ints))

-- spaced delays as numbers from low on
pub spaced : (before : ℤ) (ds : List ℤ) (n : ℤ) (low : ℕ) → pos low ≡ before +ℤ pos gap → AreSpacedFrom before ds n → Spaced low (map unsigned_abs ds)
spaced before [] n low e h = tt
spaced before (d ∷ ds) n low e h =
    let first = h.0 in
    let is : d ≡ pos (unsigned_abs d) = natural d (omega (arith, ints)) in
    let rest : Spaced (unsigned_abs d + gap) (map unsigned_abs ds) = spaced d ds n (unsigned_abs d + gap) (omega (arith, ints)) h.1 in
    (omega (arith, ints), rest)

-- each delay of a spaced list is at least a gap before n, and so is the one before it
pub record Early (before n : ℤ) (m : ℕ) (ds : List ℤ) : Type 0 where
  pub room : (before +ℤ pos gap) ≤ℤ n
  pub each : Before m (map unsigned_abs ds)

pub early : (before : ℤ) (ds : List ℤ) (m : ℕ) → pos 0 ≤ℤ before → AreSpacedFrom before ds (pos m) → Early before (pos m) m ds
early before [] m low h = record { room = h; each = tt }
early before (d ∷ ds) m low h =
    let first = h.0 in
    let rest = early d ds m (omega (arith, ints)) h.1 in
    let room = rest.room in
    let is : d ≡ pos (unsigned_abs d) = natural d (omega (arith, ints)) in
    record { room = omega (arith, ints); each = (omega (arith, ints), rest.each) }

-- the gliders of a turn as the composition theorem has them
pub gliders_coming : (settings : Settings) (ds : List ℤ) (before n t : ℤ) → pos 0 ≤ℤ before → AreSpacedFrom before ds n → gliders settings ds t ≡ coming (t -ℤ settings.approach) (map unsigned_abs ds)
gliders_coming settings [] before n t low h = refl
gliders_coming settings (d ∷ ds) before n t low h =
    let first = h.0 in
    let is : d ≡ pos (unsigned_abs d) = natural d (omega (arith, ints)) in
    let later : pos 0 ≤ℤ d = omega (arith, ints) in
    ap (λ z. union (stream_glider ((t -ℤ settings.approach) -ℤ z)) (gliders settings ds t)) is
    ∙ ap (union (stream_glider ((t -ℤ settings.approach) -ℤ pos (unsigned_abs d)))) (gliders_coming settings ds d n t later h.1)

pub spaced_gliders : (settings : Settings) (ds : List ℤ) (n t : ℤ) → AreSpaced ds n → gliders settings ds t ≡ coming (t -ℤ settings.approach) (map unsigned_abs ds)
spaced_gliders settings [] n t h = absurd h
spaced_gliders settings (d ∷ ds) n t h =
    ap (λ z. union (stream_glider ((t -ℤ settings.approach) -ℤ z)) (gliders settings ds t)) (h.0 ∙ ap (λ z. pos (unsigned_abs z)) (sym h.0))
    ∙ ap (union (stream_glider ((t -ℤ settings.approach) -ℤ pos (unsigned_abs d)))) (gliders_coming settings ds d n t (let e = h.0 in omega (arith, ints)) h.1)

gaps_of : (ds : List ℤ) (n : ℤ) → AreSpaced ds n → Spaced 0 (map unsigned_abs ds)
gaps_of [] n h = absurd h
gaps_of (d ∷ ds) n h =
    let zero_delay : unsigned_abs d ≡ 0 = ap unsigned_abs h.0 in
    (omega arith, subst (λ k. Spaced (k + gap) (map unsigned_abs ds)) (sym zero_delay) (spaced d ds n gap (let e = h.0 in omega (arith, ints)) h.1))

early_of : (ds : List ℤ) (m : ℕ) → AreSpaced ds (pos m) → (gap ≤ m) × Before m (map unsigned_abs ds)
early_of [] m h = absurd h
early_of (d ∷ ds) m h =
    let e = h.0 in
    let rest = early d ds m (omega (arith, ints)) h.1 in
    let room = rest.room in
    let zero_delay : unsigned_abs d ≡ 0 = ap unsigned_abs h.0 in
    (omega (arith, ints), (omega (arith, ints), rest.each))

ends_of : (e : TurnEnd) (kinds : List RawKind) → turn_end e (next_plane kinds e) ≡ union (shift (advance_of e) (advance_of e) (next_plane kinds e)) (scene.thrown (throw_of e))
ends_of Close kinds = refl
ends_of (Move kind a) kinds = sym (union_none _)
ends_of (Emit kind a lane j) kinds = refl

front_of : (settings : Settings) (p : AreProper settings) (e : TurnEnd) → IsInFront settings e → scene.InFront (rules settings p) (throw_of e)
front_of settings p Close h = tt
front_of settings p (Move kind a) h = tt
front_of settings p (Emit kind a lane j) h = let q = quarters_below j in omega (arith, ints)

-- a sound turn is sound for the composition theorem
pub sound_turn : (settings : Settings) (p : AreProper settings) (kinds : List RawKind) (turn : RawTurn) →
    IsSound settings (kind_plane kinds turn.kind) (next_plane kinds turn.end) turn → scene.IsSound (rules settings p) (framed kinds turn)
sound_turn settings p kinds turn s =
    let half = half_approach settings p.approach in
    let is = half.is in
    let start : turn_start settings (kind_plane kinds turn.kind) turn ≡ scene.reaction (rules settings p) (framed kinds turn) =
    ap (union (kind_plane kinds turn.kind)) (spaced_gliders settings turn.delays (pos turn.n) (pos 0) s.gaps ∙ ap (λ z. coming z (map unsigned_abs turn.delays)) (omega (arith, ints))) in
    let long = early_of turn.delays turn.n s.gaps in
    record {
      gaps = gaps_of turn.delays (pos turn.n) s.gaps;
      last = long.1;
      long = long.0;
      ends = ap (run turn.n) (sym start) ∙ s.ends ∙ ends_of turn.end kinds;
      reach = λ k l x y h. record { u = (s.bounds.reach k x y l (ap (λ (q : Plane). run k q x y) start ∙ h)).u };
      tail = λ k l x y h. tail_of half k x y (s.bounds.tail k x y l (ap (λ (q : Plane). run k q x y) start ∙ h)).own;
      front = front_of settings p turn.end s.front;
    }
  where
    behind_or : (a : ℤ) → (a <ℤ pos 2) ⊎ (pos 2 ≤ℤ a)
    behind_or a = grind (arith, ints)

    tail_of : (half : Half settings) (k : ℕ) (x y : ℤ) → ((pos 2 *ℤ (x +ℤ y) +ℤ settings.approach) <ℤ pos 2 → gliders settings turn.delays (pos k) x y ≡ true) →
        VAtLeast (pos 1 -ℤ half.half) x y ⊎ (coming (pos k -ℤ pos 2 *ℤ half.half) (map unsigned_abs turn.delays) x y ≡ true)
    tail_of half k x y own =
        let is = half.is in
        elim (behind_or (pos 2 *ℤ (x +ℤ y) +ℤ settings.approach)) [
          | inl l ↦ inr (subst (λ z. coming (pos k -ℤ z) (map unsigned_abs turn.delays) x y ≡ true) half.is
              (ap (λ (q : Plane). q x y) (sym (spaced_gliders settings turn.delays (pos turn.n) (pos k) s.gaps)) ∙ own l))
          | inr l ↦ inl (record { v = omega (arith, ints) })
        ]

-- a valid kind is one for the composition theorem
pub valid_kind : (settings : Settings) (p : AreProper settings) (s : Plane) → IsValidKind settings s → scene.IsKind (rules settings p) s
valid_kind settings p s v =
    let half = half_approach settings p.approach in
    let is = half.is in
    record {
      still = v.still;
      wall = λ x y h. record { u = (v.place.each x y h).wall };
      tail = λ x y h. let t = (v.place.each x y h).tail in record { v = omega (arith, ints) };
    }

-- nothing is one too
pub no_kind : (settings : Settings) (p : AreProper settings) → scene.IsKind (rules settings p) nothing
no_kind settings p = record {
  still = step_nothing;
  wall = λ x y h. cc;
  tail = λ x y h. cc;
}

-- the gliders of a turn at generation 0
pub gliders_at_first : (settings : Settings) (p : AreProper settings) (kinds : List RawKind) (m : Timed) → AreSpaced m.turn.delays (pos m.turn.n) →
    scene.gliders (rules settings p) (placed kinds m) 0 ≡ turn_gliders settings m
gliders_at_first settings p kinds m spaced =
    let is = (half_approach settings p.approach).is in
    sym (spaced_gliders settings m.turn.delays (pos m.turn.n) (pos 4 *ℤ m.shift -ℤ pos m.start) spaced
    ∙ ap (λ z. coming z (map unsigned_abs m.turn.delays)) (omega (arith, ints)))
