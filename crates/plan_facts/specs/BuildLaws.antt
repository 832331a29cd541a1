-- The events of a build follow from the facts and from valid times.
use Rattle.std.specs.Prelude.{◌≡◌, true, false, ℕ, ◌≤◌, ℤ, pos, ◌+ℤ◌, ◌-ℤ◌, ◌*ℤ◌, ◌≤ℤ◌, List, [], ◌∷◌, Option}
use Rattle.std.specs.List.{AllByRecursion}
use Rattle.std.specs.declared.option.Option.TheVariants.{Some, None}
use Rattle.std.proofs.Common.{refl, sym, ap, subst, ◌∙◌, arith, inr}
use Rattle.std.proofs.lemmas.Int.{ints}
use Rattle.life_plane.specs.Plane.{Plane, nothing, shift}
use Rattle.life_plane.specs.Strips.{UAtLeast}
use Rattle.life_scene.specs.Whole.{IsFar}
use Rattle.life_scene.specs.Build.{Strike, settled}
use Rattle.recipe_hit.specs.Strike.{IsHit}
use Rattle.event_times.specs.TimedTurns.{Timed, end, advance_of, Thrown, throw_after, IsBehindTurn, IsBehindThrow}
use Rattle.event_times.specs.SceneTurns.{rules, throw_of, placed}
use Rattle.event_times.specs.SceneTurnLaws.{sound_turn, valid_kind, no_kind}
use Rattle.lane_clear.specs.Frames.{moved_bounds}
use Rattle.plan_facts.specs.Happenings.{SalvoHit, Happening, frame_of, events_of}
use Rattle.plan_facts.specs.State.{State, hand_plane, left_by}
use Rattle.plan_facts.specs.MayTurn.{MayTurn, lane_thrown, after_turn}
use Rattle.plan_facts.specs.MayHit.{MayHit, after_hit, built_after, hand_after}
use Rattle.plan_facts.specs.ListLaws.{GoesWell}
use Rattle.plan_facts.specs.SalvoLaws.{hit_in_turn}
use Rattle.plan_facts.specs.StrikesThereLaws.{stands_is}
use Rattle.recipe_hit.specs.SceneBoxes.{as_box}
use Rattle.lane_clear.specs.MovedFrameLaws.{hit_at}
use Rattle.life_scene.specs.HitLaws.{struck_inside}
use Rattle.plan_facts.specs.HitLeaves.{left_of, LeavesBoth}
use Rattle.plan_facts.specs.HitLeavesLaws.{may_leave}
use Rattle.plan_facts.specs.ComePast.{ComePast, IsSettled}
use Rattle.plan_facts.specs.HoldLaws.{HoldsFrom, strike, comes_past, hit_holds}
use Rattle.plan_facts.specs.Builds.{IsLastEnd, IsNatural, EndsBy, Builds}
use Rattle.life_scene.specs.Turns as turns
use Rattle.life_scene.specs.Turns.Throw.{Keeps, Throws}
use Rattle.life_scene.specs.HandSide as hand_side
use Rattle.life_scene.specs.Hits as scene
use Rattle.life_scene.specs.Build.Event.{TurnAlone, TurnWithHit}
use Rattle.book_parts.specs.declared.settings.Settings.{Settings}
use Rattle.book_parts.specs.declared.kind.RawKind.{RawKind}
use Rattle.book_parts.specs.declared.turn.TurnEnd.{TurnEnd}
use Rattle.book_parts.specs.declared.turn.TurnEnd.TheVariants.{Close, Move, Emit}
use Rattle.book_parts.specs.Limits.{AreProper}
use Rattle.book_parts.specs.Kinds.{kind_plane, next_plane}
use Rattle.elbow_graph.specs.declared.elbow.Elbow.{Elbow}
use Rattle.elbow_graph.specs.Elbows.{elbow, leaves}
use Rattle.recipe_turn.specs.Kind.{IsValidKind}
use Rattle.event_times.specs.Events as timed
use Rattle.plan_facts.specs.Happenings.Happening.{Turns, Hits}

-- the elbow's plane and shift
abbrev pub IsElbow : List RawKind → Plane → ℤ → Option Elbow → Type 0
IsElbow kinds kind at None = kind ≡ nothing
IsElbow kinds kind at (Some e) = (kind ≡ kind_plane kinds e.kind) × (at ≡ e.shift)

elbow_left : (kinds : List RawKind) (e : TurnEnd) (shift at : ℤ) → at ≡ shift → IsElbow kinds (next_plane kinds e) (at +ℤ advance_of e) (leaves e shift)
elbow_left kinds Close shift at is = refl
elbow_left kinds (Move kind advance) shift at is = (refl, ap (λ z. z +ℤ advance) is)
elbow_left kinds (Emit kind advance lane j) shift at is = (refl, ap (λ z. z +ℤ advance) is)

module _ (settings : Settings) (p : AreProper settings) (kinds : List RawKind) (hand target : Plane) where
  abbrev r : turns.Rules
  r = rules settings p

  -- where the composition theorem stands
  pub record Standing (state : State) (kind : Plane) (at : ℤ) (since : ℕ) (from : ℤ) (before : turns.Throw) (hit_since : ℕ) (past : timed.History) : Type 0 where
    pub elbow_is : IsElbow kinds kind at state.elbow
    pub next : (start : ℕ) → IsBehindTurn past.past.turn start → (since ≤ start) × (from ≤ℤ (pos start -ℤ pos 4 *ℤ at))
    pub passed : (start : ℕ) → IsBehindThrow settings past.past.throw start → turns.Passed (rules settings p) before since start
    pub rests : hand_side.Rests state.built (hand_plane hand state.hand)
    pub is_settled : IsSettled past.hits (hand_plane hand state.hand) hit_since

  passed_after : (e : TurnEnd) (m : Timed) (before : Option Thrown) (start : ℕ) → IsBehindThrow settings (throw_after e m before) start → turns.Passed (rules settings p) (throw_of e) (end m) start
  passed_after Close m before start h = tt
  passed_after (Move kind advance) m before start h = tt
  passed_after (Emit kind advance lane j) m before start h = let b = h.1 in omega (arith, ints)

  -- a turn starts as the composition theorem asks
  starts : (state : State) (kind : Plane) (at : ℤ) (since : ℕ) (from : ℤ) (before : turns.Throw) (hit_since : ℕ) (past : timed.History) (m : Timed) →
      Standing state kind at since from before hit_since past → MayTurn settings kinds state m → timed.MayHappen settings past m → turns.Starts (rules settings p) kind at since from before (placed kinds m)
  starts state kind at since from before hit_since past m st turn may =
      let e : IsElbow kinds kind at (Some (elbow m.turn.kind m.shift)) = subst (IsElbow kinds kind at) turn.elbow_is st.elbow_is in
      let is_at = e.1 in
      let next = st.next m.start may.start.turn in
      let due = next.1 in
      record {
        is_kind = sym e.0;
        is_at = sym e.1;
        valid = valid_kind settings p kind (subst (IsValidKind settings) (sym e.0) turn.sound.valid);
        sound = sound_turn settings p kinds m.turn turn.sound.sound;
        later = next.0;
        due_later = omega (arith, ints);
        passed = st.passed m.start may.start.throw;
      }

  is_at : (state : State) (kind : Plane) (at : ℤ) (since : ℕ) (from : ℤ) (before : turns.Throw) (hit_since : ℕ) (past : timed.History) (m : Timed) →
      Standing state kind at since from before hit_since past → MayTurn settings kinds state m → at ≡ m.shift
  is_at state kind at since from before hit_since past m st turn = (subst (IsElbow kinds kind at) turn.elbow_is st.elbow_is).1

  -- when the gliders of the next turn are due at the earliest
  abbrev from_after : Timed → ℤ
  from_after m = turns.next_due (placed kinds m)

  next_after : (m : Timed) (at : ℤ) (start : ℕ) → at ≡ m.shift → IsBehindTurn (Some m) start → (end m ≤ start) × (from_after m ≤ℤ (pos start -ℤ pos 4 *ℤ (at +ℤ advance_of m.turn.end)))
  next_after m at start is h = let b = h.1 in (h.0, omega (arith, ints))

  after_a_turn : (state : State) (kind : Plane) (at : ℤ) (since : ℕ) (from : ℤ) (before : turns.Throw) (hit_since : ℕ) (past : timed.History) (m : Timed) →
      Standing state kind at since from before hit_since past → MayTurn settings kinds state m →
      Standing (after_turn state m) (next_plane kinds m.turn.end) (at +ℤ advance_of m.turn.end) (end m) (from_after m) (throw_of m.turn.end) hit_since (timed.history_after past (timed.Event.Turn m))
  after_a_turn state kind at since from before hit_since past m st turn =
      let is = is_at state kind at since from before hit_since past m st turn in
      record {
        elbow_is = elbow_left kinds m.turn.end m.shift at is;
        next = λ start h. next_after m at start is h;
        passed = λ start h. passed_after m.turn.end m past.past.throw start h;
        rests = st.rests;
        is_settled = st.is_settled;
      }

  -- what follows where nothing waits
  abbrev pub Idle : List Happening → Type 0
  Idle happenings = (state : State) (kind : Plane) (at : ℤ) (since : ℕ) (from : ℤ) (before : turns.Throw) (hit_since : ℕ) (past : timed.History) →
      Standing state kind at since from before hit_since past → state.waits ≡ None → GoesWell settings kinds hand target state happenings → timed.AreValidEvents settings past (events_of happenings) →
      Builds (rules settings p) kinds kind at since from before state.built (hand_plane hand state.hand) hit_since past happenings target

  -- what follows a turn that throws
  abbrev pub Waiting : List Happening → Type 0
  Waiting happenings = (state : State) (kind : Plane) (at : ℤ) (since : ℕ) (from : ℤ) (before : turns.Throw) (hit_since : ℕ) (past : timed.History) (m : Timed) (next : ℕ) (advance lane j : ℤ) →
      Standing state kind at since from before hit_since past → MayTurn settings kinds state m → timed.MayHappen settings past m → m.turn.end ≡ Emit next advance lane j →
      GoesWell settings kinds hand target (after_turn state m) happenings → timed.AreValidEvents settings (timed.history_after past (timed.Event.Turn m)) (events_of happenings) →
      Builds (rules settings p) kinds kind at since from before state.built (hand_plane hand state.hand) hit_since past (Turns m ∷ happenings) target

  some_none : {X P : Type 0} (x : X) → Some x ≡ None → P
  some_none x e = cc

  none_left : (s : Plane) → s ≡ nothing → IsFar (rules settings p) s
  none_left s is x y l = elim_false (sym (ap (λ (q : Plane). q x y) is) ∙ l)
    where
      elim_false : false ≡ true → UAtLeast (settings.reach +ℤ pos 5) x y
      elim_false e = cc

  -- at the end
  at_end : Idle []
  at_end state kind at since from before hit_since past st waits done v =
      let no_kind_left : kind ≡ nothing = subst (IsElbow kinds kind at) done.closed st.elbow_is in
      let no_hand_left : hand_plane hand state.hand ≡ nothing = ap (hand_plane hand) done.no_hand in
      record {
        events = [];
        turns_are = refl;
        build = (subst (turns.IsKind (rules settings p)) (sym no_kind_left) (no_kind settings p), st.rests);
        closed = no_kind_left;
        gone = no_hand_left;
        built_is = done.built_is;
        far = none_left (hand_plane hand state.hand) no_hand_left;
        over = λ t is turns_over hits_over. record { turns = turns_over; hits = by t (timed.last_end_of past.hits) is hits_over; events_over = tt };
        ends = λ is. by_last (timed.last_end_of past.hits) is;
        come_past = λ bounds finish c. tt;
      }
    where
      by_last : (last : Option ℤ) → IsLastEnd last hit_since → IsNatural last
      by_last None is = tt
      by_last (Some last) is = (hit_since, is)

      by : (t : ℕ) (last : Option ℤ) → IsLastEnd last hit_since → ((ended : ℤ) → last ≡ Some ended → ended ≤ℤ pos t) → hit_since ≤ t
      by t None is h = omega arith
      by t (Some last) is h = let le = h last refl in omega (arith, ints)

  -- a turn that throws nothing
  a_move : (happenings : List Happening) (state : State) (kind : Plane) (at : ℤ) (since : ℕ) (from : ℤ) (before : turns.Throw) (hit_since : ℕ) (past : timed.History) (m : Timed) →
      Standing state kind at since from before hit_since past → MayTurn settings kinds state m → timed.MayHappen settings past m → throw_of m.turn.end ≡ Keeps →
      Builds (rules settings p) kinds (next_plane kinds m.turn.end) (at +ℤ advance_of m.turn.end) (end m) (from_after m) (throw_of m.turn.end) state.built (hand_plane hand state.hand) hit_since
      (timed.history_after past (timed.Event.Turn m)) happenings target →
      Builds (rules settings p) kinds kind at since from before state.built (hand_plane hand state.hand) hit_since past (Turns m ∷ happenings) target
  a_move happenings state kind at since from before hit_since past m st turn may keeps rest =
      let s = starts state kind at since from before hit_since past m st turn may in
      record {
        events = TurnAlone (placed kinds m) ∷ rest.events;
        turns_are = ap (λ ms. placed kinds m ∷ ms) rest.turns_are;
        build = (s, (keeps, rest.build));
        closed = rest.closed;
        gone = rest.gone;
        built_is = rest.built_is;
        far = rest.far;
        over = λ t is turns_over hits_over.
            let o = rest.over t is turns_over hits_over in
            let ended = o.turns in
            let later = s.later in
            record { turns = omega arith; hits = o.hits; events_over = (o.turns, o.events_over) };
        ends = rest.ends;
        come_past = rest.come_past;
      }

  -- a throw and its hit
  module _ (state : State) (kind : Plane) (at : ℤ) (since : ℕ) (from : ℤ) (before : turns.Throw) (hit_since : ℕ) (past : timed.History) (m : Timed) (next : ℕ) (advance lane j : ℤ)
      (st : Standing state kind at since from before hit_since past) (turn : MayTurn settings kinds state m) (may : timed.MayHappen settings past m) (emits : m.turn.end ≡ Emit next advance lane j)
      (h : SalvoHit) (hit : MayHit settings hand (after_turn state m) h) where
    abbrev g : Thrown
    g = record { time = end m; lane = lane +ℤ pos 2 *ℤ m.shift; j = j -ℤ pos 4 *ℤ m.shift }

    abbrev was : timed.HasBeen
    was = record { ended = timed.hit_end g (record { frame = frame_of h; generations = h.hit.generations }); bounds = (frame_of h).bounds }

    throws_it : throw_after m.turn.end m past.past.throw ≡ Some g
    throws_it = ap (λ e. throw_after e m past.past.throw) emits

    abbrev history : timed.History
    history = record { past = record { turn = Some m; throw = Some g }; hits = was ∷ past.hits }

    -- the same, whatever was thrown
    abbrev history_with : Option Thrown → timed.History
    history_with o = record { past = record { turn = Some m; throw = o }; hits = past.hits }

    stands : hand_plane hand state.hand ≡ shift h.place.x h.place.y (left_by h.number hand h.salvo.hits)
    stands = stands_is hand state.hand h hit.is_next

    is_hit : IsHit (left_by h.number hand h.salvo.hits) h.hit.frame.lane h.hit
    is_hit = (hit_in_turn hand h.salvo.raw.lanes h.salvo.hits h.number h.hit hit.sound.hits_are hit.hit_is).is_hit

    same_lane : {a b : ℤ} → Some a ≡ Some b → a ≡ b
    same_lane e = cc

    lane_is : (frame_of h).lane ≡ lane +ℤ pos 2 *ℤ m.shift
    lane_is = same_lane (sym hit.waits_for ∙ ap (λ e. lane_thrown e m.shift) emits)

    spares : AllByRecursion (timed.SparesHit m (lane +ℤ pos 2 *ℤ m.shift) (j -ℤ pos 4 *ℤ m.shift)) past.hits
    spares = subst (λ e. timed.SparesHits e m past.hits) emits may.spares

    moved_hit : scene.IsHit (shift h.place.x h.place.y (left_by h.number hand h.salvo.hits)) (as_box (moved_bounds h.place is_hit.box)) (frame_of h).lane (frame_of h).start h.hit.generations (left_of h) (as_box (frame_of h).bounds)
    moved_hit = hit_at h.place (left_by h.number hand h.salvo.hits) h.hit is_hit

    leaves_these : LeavesBoth state.built (left_of h) (as_box (frame_of h).bounds) (built_after state.built h) (hand_plane hand (hand_after h))
    leaves_these = may_leave settings hand (after_turn state m) h hit st.rests

    holds_from : HoldsFrom (rules settings p) state.built (shift h.place.x h.place.y (left_by h.number hand h.salvo.hits)) hit_since (placed kinds m) lane j h (built_after state.built h) (hand_plane hand (hand_after h))
    holds_from =
        hit_holds settings p kinds m lane j (sound_turn settings p kinds m.turn turn.sound.sound) (ap throw_of emits) h (left_by h.number hand h.salvo.hits) state.built is_hit lane_is hit.clear
        (subst (hand_side.Rests state.built) stands st.rests) past.hits hit_since (built_after state.built h) (hand_plane hand (hand_after h))
        (subst (λ s. IsSettled past.hits s hit_since) stands st.is_settled) spares leaves_these

    abbrev this : Strike
    this = strike h holds_from.box holds_from.begin (built_after state.built h) (hand_plane hand (hand_after h))

    ended_is : was.ended ≡ pos (settled this)
    ended_is = let b = holds_from.begins in omega (arith, ints)

    past_this : ComePast history.hits (frame_of h).bounds (settled this)
    past_this m2 lane2 j2 all = comes_past m2 lane2 j2 was (settled this) ended_is all.0

    after_the_hit : Standing (after_hit (after_turn state m) h) (next_plane kinds m.turn.end) (at +ℤ advance_of m.turn.end) (end m) (from_after m) (throw_of m.turn.end) (settled this) history
    after_the_hit =
        let is = is_at state kind at since from before hit_since past m st turn in
        record {
          elbow_is = elbow_left kinds m.turn.end m.shift at is;
          next = λ start b. next_after m at start is b;
          passed = λ start b. passed_after m.turn.end m past.past.throw start (subst (λ (o : Option Thrown). IsBehindThrow settings o start) (sym throws_it) b);
          rests = leaves_these.rests;
          is_settled = inr (record { bounds = (frame_of h).bounds; inside = leaves_these.inside; past = past_this });
        }

    valid_after : (happenings : List Happening) → timed.AreValidEvents settings (timed.history_after past (timed.Event.Turn m)) (events_of (Hits h ∷ happenings)) → timed.AreValidEvents settings history (events_of happenings)
    valid_after happenings v = subst (λ (o : Option Thrown). timed.AreValidEvents settings (history_with o) (events_of (Hits h ∷ happenings))) throws_it v

    a_throw : (happenings : List Happening) →
        Builds (rules settings p) kinds (next_plane kinds m.turn.end) (at +ℤ advance_of m.turn.end) (end m) (from_after m) (throw_of m.turn.end) (built_after state.built h) (hand_plane hand (hand_after h)) (settled this)
        history happenings target →
        Builds (rules settings p) kinds kind at since from before state.built (shift h.place.x h.place.y (left_by h.number hand h.salvo.hits)) hit_since past (Turns m ∷ (Hits h ∷ happenings)) target
    a_throw happenings rest =
        let s = starts state kind at since from before hit_since past m st turn may in
        record {
          events = TurnWithHit (placed kinds m) lane j this ∷ rest.events;
          turns_are = ap (λ ms. placed kinds m ∷ ms) rest.turns_are;
          build = (s, (ap throw_of emits, (holds_from.holds, (rest.come_past (frame_of h).bounds (settled this) past_this, rest.build))));
          closed = rest.closed;
          gone = rest.gone;
          built_is = rest.built_is;
          far = λ x y l.
              let i = struck_inside (shift h.place.x h.place.y (left_by h.number hand h.salvo.hits)) (as_box (moved_bounds h.place is_hit.box)) (frame_of h).lane (frame_of h).start h.hit.generations (left_of h) (as_box (frame_of h).bounds) moved_hit x y l in
              let il = i.left in
              let ib = i.bottom in
              let works = hit.clear.works in
              record { u = omega (arith, ints) };
          over = λ t is turns_over hits_over.
              let o = rest.over t ended_is turns_over (subst (λ (o : Option Thrown). EndsBy (history_with o) (events_of (Hits h ∷ happenings)) t) throws_it hits_over) in
              let ended = o.turns in
              let later = s.later in
              let hits = o.hits in
              let lasts = holds_from.lasts in
              record { turns = omega arith; hits = omega arith; events_over = (o.turns, (o.hits, o.events_over)) };
          ends = λ is. subst (λ (o : Option Thrown). IsNatural (timed.last_end_of (timed.history_of (history_with o) (events_of (Hits h ∷ happenings))).hits)) (sym throws_it) (rest.ends ended_is);
          come_past = λ bounds finish c. (
            record { past = c m (lane +ℤ pos 2 *ℤ m.shift) (j -ℤ pos 4 *ℤ m.shift) spares },
            rest.come_past bounds finish (λ m2 lane2 j2 all. c m2 lane2 j2 all.1),
          );
        }

  -- a glider that waits comes to its hit at once
  waiting_on : (happenings : List Happening) → Idle happenings → (h : SalvoHit) → Waiting (Hits h ∷ happenings)
  waiting_on happenings idle h state kind at since from before hit_since past m next advance lane j st turn may emits goes v =
      let rest = idle (after_hit (after_turn state m) h) (next_plane kinds m.turn.end) (at +ℤ advance_of m.turn.end) (end m) (from_after m) (throw_of m.turn.end) _ _
      (after_the_hit state kind at since from before hit_since past m next advance lane j st turn may emits h goes.0) refl goes.1
      (valid_after state kind at since from before hit_since past m next advance lane j st turn may emits h goes.0 happenings v) in
      subst (λ s. Builds (rules settings p) kinds kind at since from before state.built s hit_since past (Turns m ∷ (Hits h ∷ happenings)) target)
      (sym (stands_is hand state.hand h goes.0.is_next))
      (a_throw state kind at since from before hit_since past m next advance lane j st turn may emits h goes.0 happenings rest)

  both_ways : (happenings : List Happening) → Idle happenings × Waiting happenings
  both_ways [] = (
    at_end,
    λ state kind at since from before hit_since past m next advance lane j st turn may emits done v.
        some_none (lane +ℤ pos 2 *ℤ m.shift) (sym (ap (λ e. lane_thrown e m.shift) emits) ∙ done.none_waits),
  )
  both_ways (Turns m ∷ happenings) = (
    λ state kind at since from before hit_since past st waits goes v. a_turn (both_ways happenings).0 (both_ways happenings).1 state kind at since from before hit_since past st goes v m.turn.end refl,
    λ state kind at since from before hit_since past m2 next advance lane j st turn may emits goes v.
        some_none (lane +ℤ pos 2 *ℤ m2.shift) (sym (ap (λ e. lane_thrown e m2.shift) emits) ∙ goes.0.none_waits),
  )
    where
      a_turn : Idle happenings → Waiting happenings → (state : State) (kind : Plane) (at : ℤ) (since : ℕ) (from : ℤ) (before : turns.Throw) (hit_since : ℕ) (past : timed.History) →
          Standing state kind at since from before hit_since past → GoesWell settings kinds hand target state (Turns m ∷ happenings) → timed.AreValidEvents settings past (events_of (Turns m ∷ happenings)) →
          (e : TurnEnd) → m.turn.end ≡ e →
          Builds (rules settings p) kinds kind at since from before state.built (hand_plane hand state.hand) hit_since past (Turns m ∷ happenings) target
      a_turn idle waiting state kind at since from before hit_since past st goes v Close is =
          a_move happenings state kind at since from before hit_since past m st goes.0 v.0 (ap throw_of is)
          (idle (after_turn state m) (next_plane kinds m.turn.end) (at +ℤ advance_of m.turn.end) (end m) (from_after m) (throw_of m.turn.end) hit_since (timed.history_after past (timed.Event.Turn m))
          (after_a_turn state kind at since from before hit_since past m st goes.0) (ap (λ e. lane_thrown e m.shift) is) goes.1 v.1)
      a_turn idle waiting state kind at since from before hit_since past st goes v (Move next advance) is =
          a_move happenings state kind at since from before hit_since past m st goes.0 v.0 (ap throw_of is)
          (idle (after_turn state m) (next_plane kinds m.turn.end) (at +ℤ advance_of m.turn.end) (end m) (from_after m) (throw_of m.turn.end) hit_since (timed.history_after past (timed.Event.Turn m))
          (after_a_turn state kind at since from before hit_since past m st goes.0) (ap (λ e. lane_thrown e m.shift) is) goes.1 v.1)
      a_turn idle waiting state kind at since from before hit_since past st goes v (Emit next advance lane j) is =
          waiting state kind at since from before hit_since past m next advance lane j st goes.0 v.0 is goes.1 v.1
  both_ways (Hits h ∷ happenings) = (
    λ state kind at since from before hit_since past st waits goes v. some_none (frame_of h).lane (sym goes.0.waits_for ∙ waits),
    waiting_on happenings (both_ways happenings).0 h,
  )

  -- with valid times the events of a build follow, where nothing waits
  pub builds : (happenings : List Happening) → Idle happenings
  builds happenings = (both_ways happenings).0
