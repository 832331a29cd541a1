-- The stream of a construction with valid times is gliders on one lane, each at least a gap behind the one before it.
use Rattle.std.specs.Prelude.{◌≡◌, ℕ, ℤ, pos, ◌+ℤ◌, ◌-ℤ◌, ◌*ℤ◌, ◌≤ℤ◌, List, [], ◌∷◌, ◌++◌, map, Option}
use Rattle.std.specs.declared.option.Option.TheVariants.{Some}
use Rattle.std.proofs.Common.{refl, sym, ap, subst, ◌∙◌, arith}
use Rattle.std.proofs.lemmas.Int.{ints}
use Rattle.life_plane.specs.Plane.{Plane, union, same_plane}
use Rattle.life_plane.specs.PlaneLaws.{union_assoc}
use Rattle.life_plane.specs.Tracks.{gap, stream_glider}
use Rattle.life_cells.specs.declared.cell.Cell.{Cell}
use Rattle.book_parts.specs.declared.settings.Settings.{Settings}
use Rattle.book_parts.specs.declared.kind.RawKind.{RawKind}
use Rattle.book_parts.specs.declared.turn.TurnEnd.{TurnEnd}
use Rattle.book_parts.specs.declared.turn.TurnEnd.TheVariants.{Close, Move, Emit}
use Rattle.recipe_turn.specs.Turn.{gliders, AreSpaced, AreSpacedFrom}
use Rattle.elbow_graph.specs.declared.elbow.Elbow.{Elbow}
use Rattle.elbow_graph.specs.Elbows.{elbow, leaves}
use Rattle.event_times.specs.TimedTurns.{Timed, end, advance_of, IsAfter, IsBehindTurn}
use Rattle.event_times.specs.Events as timed
use Rattle.event_times.specs.Lane.{index_of, indices, gliders_at, AreBehind, AreInLine, IsOneLane}
use Rattle.plan_facts.specs.Happenings.{Happening, events_of}
use Rattle.plan_facts.specs.Happenings.Happening.{Turns, Hits}
use Rattle.plan_facts.specs.State.{State, first_state}
use Rattle.plan_facts.specs.MayTurn.{after_turn}
use Rattle.plan_facts.specs.MayHit.{after_hit}
use Rattle.plan_facts.specs.Facts.{IsConstruction}
use Rattle.plan_facts.specs.ListLaws.{GoesWell, goes_well}

-- ---- the same gliders

both_lists : (js ks : List ℤ) → gliders_at (js ++ ks) ≡ union (gliders_at js) (gliders_at ks)
both_lists [] ks = same_plane _ _ (λ x y. refl)
both_lists (j ∷ js) ks = ap (union (stream_glider j)) (both_lists js ks) ∙ sym (union_assoc (stream_glider j) (gliders_at js) (gliders_at ks))

turn_is : (settings : Settings) (m : Timed) (delays : List ℤ) → gliders settings delays (pos 4 *ℤ m.shift -ℤ pos m.start) ≡ gliders_at (map (index_of settings m) delays)
turn_is settings m [] = refl
turn_is settings m (delay ∷ delays) = ap (union (stream_glider (index_of settings m delay))) (turn_is settings m delays)

pub stream_is : (settings : Settings) (events : List timed.Event) → timed.stream_of settings events ≡ gliders_at (indices settings events)
stream_is settings [] = refl
stream_is settings (timed.Event.Turn m ∷ events) =
    (λ i. union (turn_is settings m m.turn.delays i) (stream_is settings events i)) ∙ sym (both_lists (map (index_of settings m) m.turn.delays) (indices settings events))
stream_is settings (timed.Event.Hit h ∷ events) = stream_is settings events

-- ---- one behind the other

-- the gliders of a turn behind one of them, and what comes behind the last of them, which is a gap before the turn's end
in_turn : (settings : Settings) (m : Timed) (before : ℤ) (delays rest : List ℤ) → AreSpacedFrom before delays (pos m.turn.n) →
    ((last : ℤ) → (last +ℤ pos gap) ≤ℤ pos m.turn.n → AreBehind (index_of settings m last) rest) → AreBehind (index_of settings m before) (map (index_of settings m) delays ++ rest)
in_turn settings m before [] rest spaced later = later before spaced
in_turn settings m before (delay ∷ delays) rest spaced later = (let next = spaced.0 in omega (arith, ints), in_turn settings m delay delays rest spaced.1 later)

whole_turn : (settings : Settings) (m : Timed) (before : ℤ) (delays rest : List ℤ) → AreSpaced delays (pos m.turn.n) → (index_of settings m (pos 0) +ℤ pos gap) ≤ℤ before →
    ((last : ℤ) → (last +ℤ pos gap) ≤ℤ pos m.turn.n → AreBehind (index_of settings m last) rest) → AreBehind before (map (index_of settings m) delays ++ rest)
whole_turn settings m before [] rest spaced first later = absurd spaced
whole_turn settings m before (delay ∷ delays) rest spaced first later = (let zero_delay = spaced.0 in omega (arith, ints), in_turn settings m delay delays rest spaced.1 later)

first_turn : (settings : Settings) (m : Timed) (delays rest : List ℤ) → AreSpaced delays (pos m.turn.n) →
    ((last : ℤ) → (last +ℤ pos gap) ≤ℤ pos m.turn.n → AreBehind (index_of settings m last) rest) → AreInLine (map (index_of settings m) delays ++ rest)
first_turn settings m [] rest spaced later = absurd spaced
first_turn settings m (delay ∷ delays) rest spaced later = in_turn settings m delay delays rest spaced.1 later

same_shift : (a b : Elbow) → Some a ≡ Some b → a.shift ≡ b.shift
same_shift a b e = cc

-- the elbow's shift that a turn leaves
shift_after : (e : TurnEnd) (shift : ℤ) (kind : ℕ) (next : ℤ) → leaves e shift ≡ Some (elbow kind next) → next ≡ shift +ℤ advance_of e
shift_after Close shift kind next is = absurd (cc)
shift_after (Move to advance) shift kind next is = sym (same_shift (elbow to (shift +ℤ advance)) (elbow kind next) is)
shift_after (Emit to advance lane j) shift kind next is = sym (same_shift (elbow to (shift +ℤ advance)) (elbow kind next) is)

module _ (settings : Settings) (kinds : List RawKind) (hand target : Plane) where
  -- all that comes after a turn is behind its last glider
  behind : (happenings : List Happening) (state : State) (past : timed.History) (m : Timed) (last : ℤ) → state.elbow ≡ leaves m.turn.end m.shift → past.past.turn ≡ Some m → (last +ℤ pos gap) ≤ℤ pos m.turn.n →
      GoesWell settings kinds hand target state happenings → timed.AreValidEvents settings past (events_of happenings) → AreBehind (index_of settings m last) (indices settings (events_of happenings))
  behind [] state past m last at is short goes valid = tt
  behind (Hits h ∷ happenings) state past m last at is short goes valid =
      behind happenings (after_hit state h) (timed.history_after past (timed.Event.Hit (record { frame = _; generations = h.hit.generations }))) m last at is short goes.1 valid
  behind (Turns n ∷ happenings) state past m last at is short goes valid =
      whole_turn settings n (index_of settings m last) n.turn.delays (indices settings (events_of happenings)) goes.0.sound.sound.gaps first
      (λ l le. behind happenings (after_turn state n) (timed.history_after past (timed.Event.Turn n)) n l refl refl le goes.1 valid.1)
    where
      first : (index_of settings n (pos 0) +ℤ pos gap) ≤ℤ index_of settings m last
      first =
          let next : n.shift ≡ m.shift +ℤ advance_of m.turn.end = shift_after m.turn.end m.shift n.turn.kind n.shift (sym at ∙ goes.0.elbow_is) in
          let after : IsAfter (end m) (advance_of m.turn.end) n.start = subst (λ (o : Option Timed). IsBehindTurn o n.start) is valid.0.start.turn in
          let late = after.1 in
          omega (arith, ints)

  in_line : (happenings : List Happening) (state : State) (past : timed.History) → GoesWell settings kinds hand target state happenings → timed.AreValidEvents settings past (events_of happenings) →
      AreInLine (indices settings (events_of happenings))
  in_line [] state past goes valid = tt
  in_line (Hits h ∷ happenings) state past goes valid =
      in_line happenings (after_hit state h) (timed.history_after past (timed.Event.Hit (record { frame = _; generations = h.hit.generations }))) goes.1 valid
  in_line (Turns m ∷ happenings) state past goes valid =
      first_turn settings m m.turn.delays (indices settings (events_of happenings)) goes.0.sound.sound.gaps
      (λ l le. behind happenings (after_turn state m) (timed.history_after past (timed.Event.Turn m)) m l refl refl le goes.1 valid.1)

  pub construction_in_line : (start : ℕ) (first : Option Cell) (happenings : List Happening) → IsConstruction settings kinds start hand first happenings target →
      timed.AreValidEvents settings timed.no_history (events_of happenings) → AreInLine (indices settings (events_of happenings))
  construction_in_line start first happenings c valid = in_line happenings (first_state start first) timed.no_history (goes_well settings kinds hand target (first_state start first) happenings c.all_may c.done) valid

pub one_lane : (settings : Settings) (kinds : List RawKind) (hand target : Plane) (start : ℕ) (first : Option Cell) (happenings : List Happening) → IsConstruction settings kinds start hand first happenings target →
    timed.AreValidEvents settings timed.no_history (events_of happenings) → IsOneLane settings (events_of happenings)
one_lane settings kinds hand target start first happenings c valid = record { stream = stream_is settings (events_of happenings); in_line = construction_in_line settings kinds hand target start first happenings c valid }
