-- The events of a plan, added to a clock one by one.
use Rattle.std.proofs.Common.{◌≡◌, ℕ, zero, suc, ◌+◌, ◌-◌, ◌<◌, ◌≤◌, ℤ, pos, ◌+ℤ◌, ◌*ℤ◌, ◌≤ℤ◌, List, [], ◌∷◌, ◌++◌, length, length-append, map, take, drop, get_or, reverse, max, Option, refl, sym, ap, subst, ◌∙◌, ◌⊎◌, inl, inr, arith}
use Rattle.std.specs.List.{AllByRecursion}
use Rattle.std.specs.declared.option.Option.TheVariants.{Some, None}
use Rattle.std.proofs.lemmas.Int.{ints}
use Rattle.std.proofs.lemmas.Bool.{cases_lt}
use Rattle.std.proofs.lemmas.List.{take_more, take_all, reverse-append}
use Rattle.std.proofs.Math.Seq.{drop-cons}
use Rattle.life_plane.specs.ListLaws.{all_push, same_item}
use Rattle.life_plane.specs.Plane.{Plane, shift}
use Rattle.life_scene.specs.ElbowLaws.{throw_reach}
use Rattle.life_scene.specs.ClearanceLaws.{glider_before}
use Rattle.life_cells.specs.Cells.{alive}
use Rattle.life_cells.specs.declared.cell.Cell.{Cell}
use Rattle.book_parts.specs.Limits.{IsFrom, AreProper}
use Rattle.book_parts.specs.Proper.{IsProperTurn}
use Rattle.book_parts.specs.declared.limits.TheConstants.{MOST_GLIDERS, GREATEST_REACH}
use Rattle.book_parts.specs.declared.settings.Settings.{Settings}
use Rattle.book_parts.specs.declared.kind.RawKind.{RawKind}
use Rattle.book_parts.specs.declared.turn.RawTurn.{RawTurn}
use Rattle.book_parts.specs.declared.turn.TurnEnd.{TurnEnd}
use Rattle.book_parts.specs.declared.turn.TurnEnd.TheVariants.{Close, Move, Emit}
use Rattle.elbow_graph.specs.Numbered.{IsNumbered}
use Rattle.recipe_turn.specs.Checked.{raws}
use Rattle.recipe_hit.specs.Checked.{Struck, IsSmallFrame, IsChecked}
use Rattle.recipe_hit.specs.declared.frame.HitFrame.{HitFrame}
use Rattle.recipe_hit.specs.declared.limits.TheConstants.{LONGEST_HIT}
use Rattle.recipe_hit.specs.SceneBoxes.{as_box}
use Rattle.recipe_hit.specs.declared.frame.Hit as hits
use Rattle.recipe_book.specs.Checked.{CheckedEntries, IsCheckedBook}
use Rattle.lane_clear.specs.FrameLaws.{small_in_range}
use Rattle.lane_clear.specs.Frames.{moved_frame, moved_bounds, farthest, IsFrameInRange}
use Rattle.lane_clear.specs.MovedFrameLaws.{hit_at}
use Rattle.event_times.specs.TimedTurns.{Timed, end}
use Rattle.event_times.specs.SceneTurns as scene
use Rattle.event_times.specs.SceneTurnLaws.{sound_turn}
use Rattle.event_times.specs.Events as timed
use Rattle.event_times.specs.Events.{History, no_history, history_of, history_after, AreChosenEvents, StartsEarliest, IsNumber}
use Rattle.event_times.specs.Least.{been, IsLeastOf}
use Rattle.event_times.specs.Early.{latest_end, IsEarly, IsEarlyFrame}
use Rattle.event_times.specs.EarlyLaws.{ends_early, early_more, early_hit}
use Rattle.event_times.specs.Clock.{emission_of, sent_after, Shows, TurnIsAdded, HitIsAdded, time_of, turn_end_of, later_of, ends_of, n_of}
use Rattle.event_times.specs.ClockLaws.{added_earliest, added_shown, hit_shown}
use Rattle.event_times.specs.declared.clock.Clock.{Clock}
use Rattle.event_times.specs.declared.least.HitTime.{HitTime}
use Rattle.event_times.specs.declared.least.Sent.{Sent}
use Rattle.plan_facts.specs.Happenings.{SalvoHit, Happening, event_of, events_of, frame_of}
use Rattle.plan_facts.specs.Happenings.Happening.{Turns, Hits}
use Rattle.plan_facts.specs.State.{State, left_by}
use Rattle.plan_facts.specs.MayTurn.{MayTurn, lane_thrown, after_turn}
use Rattle.plan_facts.specs.MayHit.{MayHit, after_hit}
use Rattle.plan_facts.specs.Facts.{AllMayCome}
use Rattle.plan_facts.specs.SalvoLaws.{hit_in_turn}
use Rattle.build_plan.specs.declared.event.Event.{Event}
use Rattle.build_plan.specs.declared.event.Event.TheVariants.{Turn, Hit}
use Rattle.build_plan.specs.Happenings.{salvo_of, IsHitOf, StandsFor, AllStandFor, IsOfBook}
use Rattle.build_plan.specs.declared.event.Plan.{Plan}
use Rattle.build_plan.specs.Numbers.{item_of}
use Rattle.build_plan.specs.NumberLaws.{item_numbered}
use Rattle.build_plan.specs.TurnEvents.{delays_of, gliders_of}
use Rattle.stream_time.specs.InTime.{starts_of, AreEarlyStarts, IsSchedule}
use Rattle.stream_time.specs.NearEvents.{IsNearPlace, IsNearEvent, AreNearEvents}
use Rattle.stream_time.specs.declared.times.Schedule.{Schedule}
use Rattle.elbow_graph.specs.NumberedLaws.{of_number}
use Rattle.stream_time.proofs.Places.{short_hits}
use Rattle.stream_time.specs.Adding.{IsHitThere, GliderComes, EventIsAdded}

-- there is none
none_is : {P : Type 0} (x : ℤ) → None ≡ Some x → P
none_is x e = cc

-- ---- one more behind the others

events_push : (hs : List Happening) (h : Happening) → events_of (hs ++ h ∷ []) ≡ events_of hs ++ event_of h ∷ []
events_push [] h = refl
events_push (first ∷ hs) h = ap (λ (es : List timed.Event). event_of first ∷ es) (events_push hs h)

history_push : (past : History) (es : List timed.Event) (e : timed.Event) → history_of past (es ++ e ∷ []) ≡ history_after (history_of past es) e
history_push past [] e = refl
history_push past (first ∷ es) e = history_push (history_after past first) es e

chosen_turn : (settings : Settings) (past : History) (es : List timed.Event) (m : Timed) → AreChosenEvents settings past es → StartsEarliest settings (history_of past es) m →
    AreChosenEvents settings past (es ++ timed.Event.Turn m ∷ [])
chosen_turn settings past [] m c s = (s, tt)
chosen_turn settings past (timed.Event.Turn n ∷ es) m c s = (c.0, chosen_turn settings (history_after past (timed.Event.Turn n)) es m c.1 s)
chosen_turn settings past (timed.Event.Hit h ∷ es) m c s = chosen_turn settings (history_after past (timed.Event.Hit h)) es m c s

chosen_hit : (settings : Settings) (past : History) (es : List timed.Event) (h : timed.Struck) → AreChosenEvents settings past es → AreChosenEvents settings past (es ++ timed.Event.Hit h ∷ [])
chosen_hit settings past [] h c = tt
chosen_hit settings past (timed.Event.Turn n ∷ es) h c = (c.0, chosen_hit settings (history_after past (timed.Event.Turn n)) es h c.1)
chosen_hit settings past (timed.Event.Hit g ∷ es) h c = chosen_hit settings (history_after past (timed.Event.Hit g)) es h c

starts_turn : (hs : List Happening) (m : Timed) → starts_of (hs ++ Turns m ∷ []) ≡ starts_of hs ++ m.start ∷ []
starts_turn [] m = refl
starts_turn (Turns n ∷ hs) m = ap (λ (ks : List ℕ). n.start ∷ ks) (starts_turn hs m)
starts_turn (Hits h ∷ hs) m = starts_turn hs m

starts_hit : (hs : List Happening) (h : SalvoHit) → starts_of (hs ++ Hits h ∷ []) ≡ starts_of hs
starts_hit [] h = refl
starts_hit (Turns n ∷ hs) h = ap (λ (ks : List ℕ). n.start ∷ ks) (starts_hit hs h)
starts_hit (Hits g ∷ hs) h = starts_hit hs h

module _ (book : CheckedEntries) where
  stand_push : (es : List Event) (hs : List Happening) (e : Event) (h : Happening) → AllStandFor book es hs → StandsFor book e h → AllStandFor book (es ++ e ∷ []) (hs ++ h ∷ [])
  stand_push [] [] e h all one = (one, tt)
  stand_push [] (first ∷ hs) e h all one = absurd all
  stand_push (event ∷ es) [] e h all one = absurd all
  stand_push (event ∷ es) (first ∷ hs) e h all one = (all.0, stand_push es hs e h all.1 one)

  -- what the hit of an event stands for
  abbrev hit_of : Struck → ℕ → Cell → hits.Hit → SalvoHit
  hit_of salvo place at hit = record { salvo = salvo_of salvo; number = place - 1; place = at; hit = hit }

  first_place : {X : Type 0} (xs : List X) (k : ℕ) (x : X) → IsNumbered xs k x → suc (k - 1) ≡ k
  first_place [] k x h = absurd h
  first_place (y ∷ xs) zero x h = absurd h
  first_place (y ∷ xs) (suc zero) x h = omega arith
  first_place (y ∷ xs) (suc (suc k)) x h = omega arith

  is_hit_of : (number place : ℕ) (at : Cell) (salvo : Struck) (hit : hits.Hit) → IsNumbered book.salvos number salvo → IsNumbered salvo.hits place hit → IsHitOf book number place at (hit_of salvo place at hit)
  is_hit_of number place at salvo hit numbered there = record {
    salvo = salvo;
    numbered = numbered;
    salvo_is = refl;
    hit_is = there;
    number_is = first_place salvo.hits place hit there;
    place_is = refl;
  }

  -- some turns and hits for which events stand, whatever their times
  pub some_stand : (es : List Event) → AllByRecursion (IsOfBook book) es → (hs : List Happening) × AllStandFor book es hs
  some_stand [] own = ([], tt)
  some_stand (Turn number shift ∷ es) own =
      let rest = some_stand es own.1 in
      (Turns (record { turn = own.0.0; shift = shift; start = 0 }) ∷ rest.0, ((own.0.1, refl), rest.1))
  some_stand (Hit number place at ∷ es) own =
      let rest = some_stand es own.1 in
      let there = own.0 in
      (Hits (hit_of there.0 place at there.1.1.0) ∷ rest.0, (is_hit_of number place at there.0 there.1.1.0 there.1.0 there.1.1.1, rest.1))

  -- a hit of the book is short, and its frame near where the hand is
  pub record IsEarlyHitOf (at : Cell) (hit : hits.Hit) : Type 0 where
    pub frame : IsEarlyFrame (moved_frame at hit.frame)
    pub short : hit.generations ≤ LONGEST_HIT

  moved_early : (at : Cell) (f : HitFrame) → IsSmallFrame f → IsNearPlace at → IsEarlyFrame (moved_frame at f)
  moved_early at f small near =
      let xl = near.x_low in let xh = near.x_high in let yl = near.y_low in let yh = near.y_high in
      let sl = small.start.low in let sh = small.start.high in
      let ll = small.left.low in let lh = small.left.high in let tl = small.top.low in let th = small.top.high in
      let rl = small.right.low in let rh = small.right.high in let bl = small.bottom.low in let bh = small.bottom.high in
      record {
        start = record { low = omega (arith, ints); high = omega (arith, ints) };
        bounds = record {
          left_low = omega (arith, ints);
          left_high = omega (arith, ints);
          top_low = omega (arith, ints);
          top_high = omega (arith, ints);
          right_low = omega (arith, ints);
          right_high = omega (arith, ints);
          bottom_low = omega (arith, ints);
          bottom_high = omega (arith, ints);
        };
      }

  pub hit_early : IsCheckedBook book → (number place : ℕ) (at : Cell) (hit : hits.Hit) → IsHitThere book number place hit → IsNearPlace at → IsEarlyHitOf at hit
  hit_early checked number place at hit there near =
      let s = of_number IsChecked book.salvos number there.0 checked.salvos there.1.0 in
      record {
        frame = moved_early at hit.frame (of_number (λ (h : hits.Hit). IsSmallFrame h.frame) there.0.hits place hit s.small there.1.1) near;
        short = of_number (λ (h : hits.Hit). h.generations ≤ LONGEST_HIT) there.0.hits place hit (short_hits (alive there.0.hand) there.0.raw.lanes there.0.hits s.sound.hits_are).each there.1.1;
      }

  -- the frame as the salvo has it
  pub hit_frame : IsCheckedBook book → (number place : ℕ) (hit : hits.Hit) → IsHitThere book number place hit → IsFrameInRange farthest hit.frame
  hit_frame checked number place hit there =
      let s = of_number IsChecked book.salvos number there.0 checked.salvos there.1.0 in
      small_in_range hit.frame (of_number (λ (h : hits.Hit). IsSmallFrame h.frame) there.0.hits place hit s.small there.1.1)

  proper_turn : IsCheckedBook book → (number : ℕ) (turn : RawTurn) → IsNumbered (raws book.turns) number turn → IsProperTurn (length book.kinds) turn
  proper_turn checked number turn numbered = of_number (IsProperTurn (length book.kinds)) (raws book.turns) number turn checked.proper.turns numbered

-- how many turns are left
abbrev pub turns_left : List Event → ℕ
turns_left [] = 0
turns_left (Turn number shift ∷ es) = suc (turns_left es)
turns_left (Hit number place at ∷ es) = turns_left es

-- a thrown glider that waits for its hit: its lane, and that it was within the reach when it was thrown
abbrev pub GliderWaits : Settings → ℤ → Option Sent → Type 0
GliderWaits settings lane None = ⊥
GliderWaits settings lane (Some sent) = (sent.glider.lane ≡ lane) × (((pos 2 *ℤ sent.glider.lane +ℤ sent.glider.j) +ℤ pos 7) ≤ℤ (pos 2 *ℤ settings.reach))

-- so many events of a plan are in time
pub record IsSoFar (book : CheckedEntries) (events : List Event) (place : ℕ) (clock : Clock) : Type 0 where
  pub happenings : List Happening
  pub stand : AllStandFor book (take place events) happenings
  pub chosen : AreChosenEvents book.settings no_history (events_of happenings)
  pub shows : Shows (history_of no_history (events_of happenings)) clock
  pub starts : clock.starts.items ≡ starts_of happenings
  pub early : IsEarly (length clock.starts.items) clock
  pub on_time : AreEarlyStarts clock.starts.items
  pub state : State
  pub later_may : (later : List Happening) → AllStandFor book (drop place events) later → AllMayCome book.settings book.kinds (alive book.hand) state later
  pub waits : (lane : ℤ) → state.waits ≡ Some lane → GliderWaits book.settings lane clock.sent
  pub own : AllByRecursion (IsOfBook book) (drop place events)
  pub near : AreNearEvents (drop place events)
  pub few : length clock.starts.items + turns_left (drop place events) ≤ MOST_GLIDERS

near_reach : (settings : Settings) → AreProper settings → IsFrom (pos 0) GREATEST_REACH settings.reach
near_reach settings p = let wall = p.wall.low in let low = p.reach.low in let high = p.reach.high in record { low = omega (arith, ints); high = high }

module _ (book : CheckedEntries) (checked : IsCheckedBook book) (events : List Event) (place : ℕ) (clock : Clock) (s : IsSoFar book events place clock) (d : Event) (lt : place < length events) where
  abbrev here : Event
  here = get_or events place d

  abbrev behind : List Event
  behind = drop (place + 1) events

  left_is : drop place events ≡ here ∷ behind
  left_is = drop-cons events place d lt ∙ ap (λ n. here ∷ drop n events) (let e : suc place ≡ place + 1 = omega arith in e)

  own_here : AllByRecursion (IsOfBook book) (here ∷ behind)
  own_here = subst (AllByRecursion (IsOfBook book)) left_is s.own

  near_here : AreNearEvents (here ∷ behind)
  near_here = subst AreNearEvents left_is s.near

  may_here : (later : List Happening) → AllStandFor book (here ∷ behind) later → AllMayCome book.settings book.kinds (alive book.hand) s.state later
  may_here later stand = s.later_may later (subst (λ (es : List Event). AllStandFor book es later) (sym left_is) stand)

  few_here : length clock.starts.items + turns_left (here ∷ behind) ≤ MOST_GLIDERS
  few_here = subst (λ (es : List Event). length clock.starts.items + turns_left es ≤ MOST_GLIDERS) left_is s.few

  stand_more : (h : Happening) → StandsFor book here h → AllStandFor book (take (place + 1) events) (s.happenings ++ h ∷ [])
  stand_more h one = subst (λ (es : List Event). AllStandFor book es (s.happenings ++ h ∷ [])) (sym (take_more events place d lt)) (stand_push book (take place events) s.happenings here h s.stand one)

  history_more : (h : Happening) → history_of no_history (events_of (s.happenings ++ h ∷ [])) ≡ history_after (history_of no_history (events_of s.happenings)) (event_of h)
  history_more h = ap (history_of no_history) (events_push s.happenings h) ∙ history_push no_history (events_of s.happenings) (event_of h)

  -- ---- a turn

  throws_within : (settings : Settings) (p : AreProper settings) (kinds : List RawKind) (state : State) (m : Timed) (before : Option Sent) (time : ℕ) (e : TurnEnd) → m.turn.end ≡ e → MayTurn settings kinds state m →
      (lane : ℤ) → lane_thrown e m.shift ≡ Some lane → GliderWaits settings lane (sent_after (emission_of e m.shift) time before)
  throws_within settings p kinds state m before time Close is may lane w = absurd (cc)
  throws_within settings p kinds state m before time (Move kind advance) is may lane w = absurd (cc)
  throws_within settings p kinds state m before time (Emit kind advance own j) is may lane w =
      let within = throw_reach (scene.rules settings p) (scene.framed kinds m.turn) own j (sound_turn settings p kinds m.turn may.sound.sound) (ap scene.throw_of is) in
      let same : own +ℤ pos 2 *ℤ m.shift ≡ lane = cc in
      (same, omega (arith, ints))

  module _ (number : ℕ) (shift : ℤ) (is : here ≡ Turn number shift) (new : Clock) (turn : RawTurn) (numbered : IsNumbered (raws book.turns) number turn)
      (added : TurnIsAdded book.settings.reach turn shift clock new) where
    abbrev m : Timed
    m = record { turn = turn; shift = shift; start = added.start }

    stands : StandsFor book here (Turns m)
    stands = subst (λ (e : Event). StandsFor book e (Turns m)) (sym is) (numbered, refl)

    later : (hs : List Happening) × AllStandFor book behind hs
    later = some_stand book behind own_here.1

    may : MayTurn book.settings book.kinds s.state m
    may = (may_here (Turns m ∷ later.0) (stands, later.1)).0

    long : length new.starts.items ≡ length clock.starts.items + 1
    long = ap length added.starts ∙ length-append clock.starts.items (added.start ∷ [])

    near_shift : IsNearEvent (Turn number shift)
    near_shift = subst IsNearEvent is near_here.0

    starts_early : (start : ℕ) → IsLeastOf book.settings.reach clock.before clock.sent turn.n (emission_of turn.end shift) (drop clock.over clock.hits.items) start → start ≤ latest_end
    starts_early start least =
        let short = (proper_turn book checked number turn numbered).short in
        let f = subst (λ (e : Event). length clock.starts.items + turns_left (e ∷ behind) ≤ MOST_GLIDERS) is few_here in
        let ended = ends_early (length clock.starts.items) turn.n start clock book.settings.reach (emission_of turn.end shift) (near_reach book.settings checked.proper.settings) s.early (omega arith) least in
        omega arith

    pub after_turn_added : IsSoFar book events (place + 1) new
    after_turn_added = record {
      happenings = s.happenings ++ Turns m ∷ [];
      stand = stand_more (Turns m) stands;
      chosen = subst (AreChosenEvents book.settings no_history) (sym (events_push s.happenings (Turns m)))
          (chosen_turn book.settings no_history (events_of s.happenings) m s.chosen (added_earliest book.settings (history_of no_history (events_of s.happenings)) clock s.shows turn shift new added));
      shows = subst (λ (h : History). Shows h new) (sym (history_more (Turns m))) (added_shown book.settings (history_of no_history (events_of s.happenings)) clock s.shows turn shift new added);
      starts = added.starts ∙ ap (λ (ks : List ℕ). ks ++ added.start ∷ []) s.starts ∙ sym (starts_turn s.happenings m);
      early = subst (λ n. IsEarly n new) (sym long) (early_more (length clock.starts.items) (length book.kinds) clock new book.settings.reach turn shift (near_reach book.settings checked.proper.settings) (proper_turn book checked number turn numbered) near_shift s.early added);
      on_time = subst AreEarlyStarts (sym added.starts) (all_push (λ start. start ≤ latest_end) clock.starts.items added.start s.on_time (starts_early added.start added.least));
      state = after_turn s.state m;
      later_may = λ hs stand. (may_here (Turns m ∷ hs) (stands, stand)).1;
      waits = λ lane w. subst (GliderWaits book.settings lane) (sym added.sent)
          (throws_within book.settings checked.proper.settings book.kinds s.state m clock.sent (added.start + turn.n) turn.end refl may lane w);
      own = own_here.1;
      near = near_here.1;
      few = let f = subst (λ (e : Event). length clock.starts.items + turns_left (e ∷ behind) ≤ MOST_GLIDERS) is few_here in let l = long in omega arith;
    }

  -- ---- a hit

  module _ (number at_place : ℕ) (at : Cell) (is : here ≡ Hit number at_place at) (hit : hits.Hit) (there : IsHitThere book number at_place hit) where
    abbrev h : SalvoHit
    h = hit_of book there.0 at_place at hit

    hit_stands : StandsFor book here (Hits h)
    hit_stands = subst (λ (e : Event). StandsFor book e (Hits h)) (sym is) (is_hit_of book number at_place at there.0 hit there.1.0 there.1.1)

    hit_later : (hs : List Happening) × AllStandFor book behind hs
    hit_later = some_stand book behind own_here.1

    may_hit : MayHit book.settings (alive book.hand) s.state h
    may_hit = (may_here (Hits h ∷ hit_later.0) (hit_stands, hit_later.1)).0

    -- its glider comes to it after it was thrown
    comes : (o : Option Sent) → GliderWaits book.settings (frame_of h).lane o → (glider : Sent) → o ≡ Some glider → glider.glider.j ≤ℤ (pos 4 *ℤ (frame_of h).start)
    comes None w glider e = absurd w
    comes (Some sent) w glider e =
        let struck : Plane = left_by h.number (alive book.hand) h.salvo.hits in
        let is_hit = (hit_in_turn (alive book.hand) h.salvo.raw.lanes h.salvo.hits h.number h.hit may_hit.sound.hits_are may_hit.hit_is).is_hit in
        let lane = w.0 in
        let within = w.1 in
        let early = glider_before book.settings.reach (shift h.place.x h.place.y struck) (as_box (moved_bounds h.place is_hit.box)) (frame_of h).lane (frame_of h).start h.hit.generations _ (as_box (frame_of h).bounds)
        sent.glider.j (hit_at h.place struck h.hit is_hit) may_hit.clear.works (omega (arith, ints)) in
        let same : sent ≡ glider = cc in
        subst (λ (g : Sent). g.glider.j ≤ℤ (pos 4 *ℤ (frame_of h).start)) same (omega (arith, ints))

    pub glider_comes : (glider : Sent) → clock.sent ≡ Some glider → glider.glider.j ≤ℤ (pos 4 *ℤ (moved_frame at hit.frame).start)
    glider_comes glider e = comes clock.sent (s.waits (frame_of h).lane may_hit.waits_for) glider e

    pub after_hit_added : (new : Clock) → HitIsAdded (moved_frame at hit.frame) hit.generations clock new → IsSoFar book events (place + 1) new
    after_hit_added new added =
        let same : length new.starts.items ≡ length clock.starts.items = ap length added.starts in
        let near : IsNearPlace at = subst IsNearEvent is near_here.0 in
        let early = hit_early book checked number at_place at hit there near in
        record {
          happenings = s.happenings ++ Hits h ∷ [];
          stand = stand_more (Hits h) hit_stands;
          chosen = subst (AreChosenEvents book.settings no_history) (sym (events_push s.happenings (Hits h)))
              (chosen_hit book.settings no_history (events_of s.happenings) (record { frame = frame_of h; generations = hit.generations }) s.chosen);
          shows = subst (λ (past : History). Shows past new) (sym (history_more (Hits h)))
              (hit_shown (history_of no_history (events_of s.happenings)) clock new (moved_frame at hit.frame) hit.generations s.shows added);
          starts = added.starts ∙ s.starts ∙ sym (starts_hit s.happenings h);
          early = subst (λ n. IsEarly n new) (sym same) (early_hit (length clock.starts.items) hit.generations clock new (moved_frame at hit.frame) s.early early.frame early.short added);
          on_time = subst AreEarlyStarts (sym added.starts) s.on_time;
          state = after_hit s.state h;
          later_may = λ hs stand. (may_here (Hits h ∷ hs) (hit_stands, stand)).1;
          waits = λ lane w. none_is lane w;
          own = own_here.1;
          near = near_here.1;
          few = let f = subst (λ (e : Event). length clock.starts.items + turns_left (e ∷ behind) ≤ MOST_GLIDERS) is few_here in omega arith;
        }

  -- ---- whichever it is

  pub event_comes : GliderComes book here clock.sent
  event_comes = by here refl
    where
      by : (e : Event) → here ≡ e → GliderComes book e clock.sent
      by (Turn number shift) is = tt
      by (Hit number at_place at) is = λ hit there glider e. glider_comes number at_place at is hit there glider e

  pub event_added : (new : Clock) → EventIsAdded book here clock new → IsSoFar book events (place + 1) new
  event_added new added = by here refl added
    where
      by : (e : Event) → here ≡ e → EventIsAdded book e clock new → IsSoFar book events (place + 1) new
      by (Turn number shift) is (turn, (numbered, one)) = after_turn_added number shift is new turn numbered one
      by (Hit number at_place at) is (hit, (there, one)) = after_hit_added number at_place at is hit there new one

  pub own_event : IsOfBook book here
  own_event = own_here.0

  pub near_event : IsNearEvent here
  near_event = near_here.0

  pub few_turns : length clock.starts.items ≤ MOST_GLIDERS
  few_turns = let few = s.few in omega arith

-- ---- at first, and in the end

turns_few : (book : CheckedEntries) → IsCheckedBook book → (es : List Event) → AllByRecursion (IsOfBook book) es → turns_left es ≤ gliders_of (raws book.turns) es
turns_few book checked [] own = omega arith
turns_few book checked (Turn number shift ∷ es) own =
    let turn = own.0.0 in
    let some = (proper_turn book checked number turn own.0.1).some in
    let item : delays_of (item_of (raws book.turns) number) ≡ length turn.delays = ap delays_of (item_numbered (raws book.turns) number turn own.0.1) in
    let rest = turns_few book checked es own.1 in
    omega arith
turns_few book checked (Hit number place at ∷ es) own = turns_few book checked es own.1

pub so_far_begins : (book : CheckedEntries) → IsCheckedBook book → (events : List Event) (state : State) (clock : Clock) → Shows no_history clock → clock.starts.items ≡ [] → IsEarly 0 clock → state.waits ≡ None →
    ((hs : List Happening) → AllStandFor book events hs → AllMayCome book.settings book.kinds (alive book.hand) state hs) → AllByRecursion (IsOfBook book) events → AreNearEvents events →
    gliders_of (raws book.turns) events ≤ MOST_GLIDERS → IsSoFar book events 0 clock
so_far_begins book checked events state clock shows none early idle may own near few =
    let first : length clock.starts.items ≡ 0 = ap length none in
    let turns = turns_few book checked events own in
    record {
      happenings = [];
      stand = tt;
      chosen = tt;
      shows = shows;
      starts = none;
      early = subst (λ n. IsEarly n clock) (sym first) early;
      on_time = subst AreEarlyStarts (sym none) tt;
      state = state;
      later_may = may;
      waits = λ lane w. none_is lane (sym idle ∙ w);
      own = own;
      near = near;
      few = omega arith;
    }

-- the end of the last turn
turns_are : (past : History) (last : ℕ) (es : List timed.Event) → last ≡ turn_end_of (time_of past.past.turn) → timed.turns_end last es ≡ turn_end_of (time_of (history_of past es).past.turn)
turns_are past last [] is = is
turns_are past last (timed.Event.Turn m ∷ es) is = turns_are (history_after past (timed.Event.Turn m)) (end m) es refl
turns_are past last (timed.Event.Hit h ∷ es) is = turns_are (history_after past (timed.Event.Hit h)) last es is

number_is : (es : List timed.Event) (time : ℕ) (turned : List HitTime) → timed.turns_end 0 es ≡ time → timed.hits_end es ≡ timed.last_end_of (map been turned) → IsNumber es (later_of time (ends_of turned))
number_is es time [] turns hits = record { turns = omega arith; hits = λ last h. none_is last (sym hits ∙ h); least = inl (sym turns) }
number_is es time (hit ∷ more) turns hits = by (cases_lt time hit.end)
  where
    by : (time < hit.end) ⊎ (hit.end ≤ time) → IsNumber es (max time hit.end)
    by (inl lt) = record {
      turns = omega arith;
      hits = λ last h. (let same = same_item h hits in omega (arith, ints));
      least = inr (pos hit.end, (hits, (let e : max time hit.end ≡ hit.end = omega arith in ap pos e)));
    }
    by (inr le) = record {
      turns = omega arith;
      hits = λ last h. (let same = same_item h hits in omega (arith, ints));
      least = inl (let e : max time hit.end ≡ time = omega arith in e ∙ sym turns);
    }

ends_turned : (hits : List HitTime) → reverse (ends_of hits) ≡ ends_of (reverse hits)
ends_turned [] = refl
ends_turned (hit ∷ hits) =
    reverse-append (hit.end ∷ []) (ends_of hits) ∙ ap (λ (ks : List ℕ). ks ++ hit.end ∷ []) (ends_turned hits) ∙ sym (ends_push (reverse hits) hit) ∙ ap ends_of (sym (reverse-append (hit ∷ []) hits))
  where
    ends_push : (xs : List HitTime) (x : HitTime) → ends_of (xs ++ x ∷ []) ≡ ends_of xs ++ x.end ∷ []
    ends_push [] x = refl
    ends_push (y ∷ xs) x = ap (λ (ks : List ℕ). y.end ∷ ks) (ends_push xs x)

ends_been : (turned : List HitTime) → map pos (ends_of turned) ≡ map (λ (hit : timed.HasBeen). hit.ended) (map been turned)
ends_been [] = refl
ends_been (hit ∷ turned) = ap (λ (zs : List ℤ). pos hit.end ∷ zs) (ends_been turned)

pub so_far_few : (book : CheckedEntries) (events : List Event) (place : ℕ) (clock : Clock) → IsSoFar book events place clock → length clock.starts.items ≤ MOST_GLIDERS
so_far_few book events place clock s = let few = s.few in omega arith

pub so_far_ends : (book : CheckedEntries) (plan : Plan) (place : ℕ) (clock : Clock) (schedule : Schedule) → length plan.events.items ≤ place → IsSoFar book plan.events.items place clock →
    schedule.starts.items ≡ clock.starts.items → schedule.hit_ends.items ≡ ends_of clock.hits.items → schedule.n ≡ n_of clock.before clock.hits.items → IsSchedule book plan schedule
so_far_ends book plan place clock schedule long s starts hits n = record {
  happenings = s.happenings;
  in_time = record { stand = subst (λ (es : List Event). AllStandFor book es s.happenings) (take_all place plan.events.items long) s.stand; chosen = s.chosen };
  is_theirs = record {
    starts = starts ∙ s.starts;
    hits = ap (λ (ks : List ℕ). map pos (reverse ks)) hits ∙ ap (map pos) (ends_turned clock.hits.items) ∙ ends_been (reverse clock.hits.items) ∙ ap (map (λ (hit : timed.HasBeen). hit.ended)) (sym s.shows.hits);
    number = subst (IsNumber (events_of s.happenings)) (sym (n ∙ ap (later_of (turn_end_of clock.before)) (ends_turned clock.hits.items)))
        (number_is (events_of s.happenings) (turn_end_of clock.before) (reverse clock.hits.items) (turns_are no_history 0 (events_of s.happenings) refl ∙ ap turn_end_of (sym s.shows.turn)) (ap timed.last_end_of s.shows.hits));
  };
}
