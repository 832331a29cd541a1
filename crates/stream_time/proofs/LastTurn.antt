-- The last turn of a plan: there is one, and it starts late enough for its shift.
use Rattle.std.proofs.Common.{◌≡◌, ℕ, ℤ, pos, neg_ℤ, ◌+ℤ◌, ◌*ℤ◌, ◌≤ℤ◌, List, [], ◌∷◌, ◌++◌, Option, w64, to_z, of_z, refl, sym, ap, subst, ◌∙◌, append_assoc, arith}
use Rattle.std.specs.List.{AllByRecursion}
use Rattle.std.specs.declared.option.Option.TheVariants.{Some}
use Rattle.std.proofs.lemmas.Int.{ints}
use Rattle.life_plane.specs.Plane.{Plane, shift}
use Rattle.life_cells.specs.Cells.{alive}
use Rattle.life_target.specs.Targets.{IsTarget}
use Rattle.life_cells.specs.declared.cell.Cell.{Cell}
use Rattle.book_parts.specs.declared.settings.Settings.{Settings}
use Rattle.book_parts.specs.declared.kind.RawKind.{RawKind}
use Rattle.book_parts.specs.declared.turn.RawTurn.{RawTurn}
use Rattle.book_parts.specs.declared.turn.TurnEnd.{TurnEnd}
use Rattle.book_parts.specs.declared.turn.TurnEnd.TheVariants.{Close, Move, Emit}
use Rattle.elbow_graph.specs.declared.elbow.Elbow.{Elbow}
use Rattle.elbow_graph.specs.Elbows.{elbow, leaves}
use Rattle.recipe_turn.specs.Checked.{raws}
use Rattle.recipe_book.specs.Checked.{CheckedEntries, IsCheckedBook}
use Rattle.event_times.specs.Early.{IsNearShift}
use Rattle.event_times.specs.TimedTurns.{Timed, Past, no_past, end, advance_of, IsAfter, IsBehindTurn, past_after}
use Rattle.event_times.specs.Events as timed
use Rattle.event_times.specs.Events.{History, no_history, history_after, AreChosenEvents}
use Rattle.plan_facts.specs.Happenings.{Happening, event_of, events_of}
use Rattle.plan_facts.specs.Happenings.Happening.{Turns, Hits}
use Rattle.plan_facts.specs.State.{State, first_state}
use Rattle.plan_facts.specs.MayTurn.{after_turn}
use Rattle.plan_facts.specs.MayHit.{after_hit}
use Rattle.plan_facts.specs.Facts.{AllMayCome, IsConstruction}
use Rattle.elbow_route.specs.Lists.{ClosesBy}
use Rattle.build_plan.specs.declared.event.Event.{Event}
use Rattle.build_plan.specs.declared.event.Event.TheVariants.{Turn}
use Rattle.build_plan.specs.declared.event.Plan.{Plan}
use Rattle.build_plan.specs.TurnEvents.{turn_events, elbow_past}
use Rattle.build_plan.specs.Numbers.{item_of}
use Rattle.build_plan.specs.Happenings.{AllStandFor}
use Rattle.build_plan.specs.Plan.{IsPlan, taken_events}
use Rattle.stream_time.specs.InTime.{starts_of, IsSchedule}
use Rattle.stream_time.specs.declared.times.Schedule.{Schedule}
use Rattle.stream_time.specs.NearPlanLaws.{plan_near}
use Rattle.stream_time.specs.NearEvents.{IsNearEvent, AreNearEvents}
use Rattle.stream_time.specs.LastDelay.{EndInTurn}

-- ---- a turn comes last

end_later : (front events : List Event) → EndInTurn events → EndInTurn (front ++ events)
end_later front events e = record { before = front ++ e.before; number = e.number; shift = e.shift; is = ap (λ (es : List Event). front ++ es) e.is ∙ sym (append_assoc front e.before (Turn e.number e.shift ∷ [])) }

turns_end_so : (turns : List RawTurn) (from : Elbow) (k : ℕ) (ks : List ℕ) → EndInTurn (turn_events turns from (k ∷ ks))
turns_end_so turns from k [] = record { before = []; number = k; shift = from.shift; is = refl }
turns_end_so turns from k (l ∷ ls) = end_later (Turn k from.shift ∷ []) _ (turns_end_so turns (elbow_past (item_of turns k) from) l ls)

closing_ends : (turns : List RawTurn) (span : ℤ) (from : Elbow) (list : List ℕ) → ClosesBy turns span from list → EndInTurn (turn_events turns from list)
closing_ends turns span from [] closes = absurd closes
closing_ends turns span from (k ∷ ks) closes = turns_end_so turns from k ks

-- the last event of a plan is a turn
pub plan_ends : (book : CheckedEntries) (target : Plane) (plan : Plan) → IsPlan book target plan → EndInTurn plan.events.items
plan_ends book target plan is =
    let p = is.plans in
    let closing = closing_ends (raws book.turns) book.settings.span p.course.elbow p.closing p.least.ends in
    subst EndInTurn (sym p.events_are) (end_later (taken_events p.course.taken) _ (end_later p.course.farewell _ closing))

-- what stands for events of which the last is a turn
pub record EndsSo (hs : List Happening) (shift : ℤ) : Type 0 where
  pub before : List Happening
  pub last : Timed
  pub is : hs ≡ before ++ Turns last ∷ []
  pub shift_is : last.shift ≡ shift

pub stand_last : (book : CheckedEntries) (front : List Event) (number : ℕ) (shift : ℤ) (hs : List Happening) → AllStandFor book (front ++ Turn number shift ∷ []) hs → EndsSo hs shift
stand_last book [] number shift [] stand = absurd stand
stand_last book [] number shift (Turns m ∷ []) stand = record { before = []; last = m; is = refl; shift_is = stand.0.1 }
stand_last book [] number shift (Turns m ∷ (h ∷ hs)) stand = absurd stand.1
stand_last book [] number shift (Hits h ∷ hs) stand = absurd stand.0
stand_last book (e ∷ front) number shift [] stand = absurd stand
stand_last book (e ∷ front) number shift (h ∷ hs) stand =
    let rest = stand_last book front number shift hs stand.1 in
    record { before = h ∷ rest.before; last = rest.last; is = ap (λ (ks : List Happening). h ∷ ks) rest.is; shift_is = rest.shift_is }

-- their starts
pub starts_last : (before : List Happening) (m : Timed) → starts_of (before ++ Turns m ∷ []) ≡ starts_of before ++ m.start ∷ []
starts_last [] m = refl
starts_last (Turns n ∷ before) m = ap (λ ks. n.start ∷ ks) (starts_last before m)
starts_last (Hits h ∷ before) m = starts_last before m

-- ---- no turn starts before its shift

-- a turn starts four generations later for each cell of its shift, at least
abbrev pub IsPastShift : Happening → Type 0
IsPastShift (Turns m) = (pos 4 *ℤ m.shift) ≤ℤ pos m.start
IsPastShift (Hits h) = Unit {0}

-- whatever turn may start behind what has been, at this elbow, is such
abbrev Keeps : Option Elbow → Past → Type 0
Keeps leads past = (at : Elbow) → leads ≡ Some at → (start : ℕ) → IsBehindTurn past.turn start → (pos 4 *ℤ at.shift) ≤ℤ pos start

moved : (m : Timed) (kind : ℕ) (advance : ℤ) (at : Elbow) → elbow kind (m.shift +ℤ advance) ≡ at → (pos 4 *ℤ m.shift) ≤ℤ pos m.start → (start : ℕ) → IsAfter (end m) advance start → (pos 4 *ℤ at.shift) ≤ℤ pos start
moved m kind advance at is passed start after =
    let shift_is : m.shift +ℤ advance ≡ at.shift = ap (λ (e : Elbow). e.shift) is in
    let late = after.1 in
    omega (arith, ints)

kept : (m : Timed) (stated : TurnEnd) → m.turn.end ≡ stated → (pos 4 *ℤ m.shift) ≤ℤ pos m.start → (past : Past) → Keeps (leaves stated m.shift) (past_after past m)
kept m Close is passed past at leads start behind = absurd (cc)
kept m (Move kind advance) is passed past at leads start behind = moved m kind advance at (cc) passed start (subst (λ (e : TurnEnd). IsAfter (end m) (advance_of e) start) is behind)
kept m (Emit kind advance lane j) is passed past at leads start behind = moved m kind advance at (cc) passed start (subst (λ (e : TurnEnd). IsAfter (end m) (advance_of e) start) is behind)

all_past : (settings : Settings) (kinds : List RawKind) (hand : Plane) (state : State) (past : History) (hs : List Happening) → Keeps state.elbow past.past → AllMayCome settings kinds hand state hs → AreChosenEvents settings past (events_of hs) →
    AllByRecursion IsPastShift hs
all_past settings kinds hand state past [] keeps may chosen = tt
all_past settings kinds hand state past (Turns m ∷ hs) keeps may chosen =
    let here = keeps _ may.0.elbow_is m.start chosen.0.may.start.turn in
    (here, all_past settings kinds hand (after_turn state m) (history_after past (timed.Event.Turn m)) hs (kept m m.turn.end refl here past.past) may.1 chosen.1)
all_past settings kinds hand state past (Hits h ∷ hs) keeps may chosen = (tt, all_past settings kinds hand (after_hit state h) (history_after past (event_of (Hits h))) hs keeps may.1 chosen)

pub all_last : {X : Type 0} (P : X → Type 0) (before : List X) (h : X) → AllByRecursion P (before ++ h ∷ []) → P h
all_last P [] h all = all.0
all_last P (b ∷ before) h all = all_last P before h all.1

first_keeps : (start : ℕ) → Keeps (Some (elbow start (pos 0))) no_past
first_keeps first at leads start behind = let same : elbow first (pos 0) ≡ at = cc in let shift_is : pos 0 ≡ at.shift = ap (λ (e : Elbow). e.shift) same in omega (arith, ints)

-- the last turn of a construction, whose turns start as soon as they may, is such
pub last_past : (settings : Settings) (kinds : List RawKind) (hand target : Plane) (start : ℕ) (first : Option Cell) (before : List Happening) (m : Timed) →
    IsConstruction settings kinds start hand first (before ++ Turns m ∷ []) target → AreChosenEvents settings no_history (events_of (before ++ Turns m ∷ [])) → (pos 4 *ℤ m.shift) ≤ℤ pos m.start
last_past settings kinds hand target start first before m construction chosen =
    all_last IsPastShift before (Turns m) (all_past settings kinds hand (first_state start first) no_history (before ++ Turns m ∷ []) (first_keeps start) construction.all_may chosen)

-- ---- the last turn of a plan in time

-- the last turn of a plan, as its event, as it stands in time, and in the schedule
pub record LastTurn (book : CheckedEntries) (plan : Plan) (schedule : Schedule) (s : IsSchedule book plan schedule) : Type 0 where
  pub front : List Event
  pub number : ℕ
  pub shift : ℤ
  pub events_are : plan.events.items ≡ front ++ Turn number shift ∷ []
  pub before : List Happening
  pub last : Timed
  pub happenings_are : s.happenings ≡ before ++ Turns last ∷ []
  pub shift_is : last.shift ≡ shift
  pub starts_are : schedule.starts.items ≡ starts_of before ++ last.start ∷ []
  pub passed : (pos 4 *ℤ last.shift) ≤ℤ pos last.start

-- the law that plans construct
abbrev pub Constructs : Type 0
Constructs =
    (book : CheckedEntries) → IsCheckedBook book → (target : Plane) (plan : Plan) → IsPlan book target plan → (happenings : List Happening) → AllStandFor book plan.events.items happenings →
    IsConstruction book.settings book.kinds book.start (alive book.hand) plan.first_hand happenings (shift (neg_ℤ plan.back.x) (neg_ℤ plan.back.y) target)

pub last_turn : (book : CheckedEntries) (target : Plane) (plan : Plan) (schedule : Schedule) → IsCheckedBook book → IsPlan book target plan → Constructs → (s : IsSchedule book plan schedule) → LastTurn book plan schedule s
last_turn book target plan schedule checked is constructs s =
    let e = plan_ends book target plan is in
    let h = stand_last book e.before e.number e.shift s.happenings (subst (λ (es : List Event). AllStandFor book es s.happenings) e.is s.in_time.stand) in
    let construction = constructs book checked target plan is s.happenings s.in_time.stand in
    record {
      front = e.before;
      number = e.number;
      shift = e.shift;
      events_are = e.is;
      before = h.before;
      last = h.last;
      happenings_are = h.is;
      shift_is = h.shift_is;
      starts_are = s.is_theirs.starts ∙ ap starts_of h.is ∙ starts_last h.before h.last;
      passed = last_past book.settings book.kinds (alive book.hand) (shift (neg_ℤ plan.back.x) (neg_ℤ plan.back.y) target) book.start plan.first_hand h.before h.last
          (subst (λ (hs : List Happening). IsConstruction book.settings book.kinds book.start (alive book.hand) plan.first_hand hs (shift (neg_ℤ plan.back.x) (neg_ℤ plan.back.y) target)) h.is construction)
          (subst (λ (hs : List Happening). AreChosenEvents book.settings no_history (events_of hs)) h.is s.in_time.chosen);
    }

pub not_none : {X : Type 0} (before : List X) (x : X) → before ++ x ∷ [] ≡ [] → ⊥
not_none [] x e = cc
not_none (b ∷ before) x e = cc

-- a near shift that is read is what it was
shift_read : (read shift : ℤ) → read ≡ shift → IsNearShift shift → to_z w64 (of_z w64 read) ≡ shift
shift_read read shift is near = let low = near.low in let high = near.high in omega (arith, ints)

-- the last shift and the last start are read: they are those of the last turn
pub record ReadsLast (book : CheckedEntries) (plan : Plan) (schedule : Schedule) (s : IsSchedule book plan schedule) (read : ℤ) (start : ℕ) : Type 0 where
  pub turn : LastTurn book plan schedule s
  pub near : IsNearShift turn.shift
  pub shift_is : to_z w64 (of_z w64 read) ≡ turn.last.shift
  pub start_is : start ≡ turn.last.start

pub reads_last : (book : CheckedEntries) (target : Plane) (plan : Plan) (schedule : Schedule) → IsCheckedBook book → IsTarget target → IsPlan book target plan → Constructs →
    (s : IsSchedule book plan schedule) (read : ℤ) (start : ℕ) → ((front : List Event) (number : ℕ) (shift : ℤ) → plan.events.items ≡ front ++ Turn number shift ∷ [] → read ≡ shift) →
    ((front : List ℕ) (last : ℕ) → schedule.starts.items ≡ front ++ last ∷ [] → start ≡ last) → ReadsLast book plan schedule s read start
reads_last book target plan schedule checked is_target is constructs s read start reads_shift reads_start =
    let t = last_turn book target plan schedule checked is constructs s in
    let near = all_last IsNearEvent t.front (Turn t.number t.shift) (subst AreNearEvents t.events_are (plan_near book checked target is_target plan is).events) in
    record {
      turn = t;
      near = near;
      shift_is = shift_read read t.shift (reads_shift t.front t.number t.shift t.events_are) near ∙ sym t.shift_is;
      start_is = reads_start (starts_of t.before) t.last.start t.starts_are;
    }
