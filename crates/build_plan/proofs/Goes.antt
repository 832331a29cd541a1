-- Events that may come one after the other, whatever their times, and where they lead.
use Rattle.std.specs.Prelude.{◌≡◌, ℕ, ℤ, pos, ◌+ℤ◌, ◌*ℤ◌, List, [], ◌∷◌, ◌++◌, Option}
use Rattle.std.specs.declared.option.Option.TheVariants.{Some, None}
use Rattle.std.proofs.Common.{refl, sym, ap, subst, ◌∙◌, inl, inr}
use Rattle.life_plane.specs.Plane.{Plane}
use Rattle.life_cells.specs.Cells.{alive}
use Rattle.life_cells.specs.declared.cell.Cell.{Cell}
use Rattle.book_parts.specs.declared.turn.RawTurn.{RawTurn}
use Rattle.book_parts.specs.declared.turn.TurnEnd.{TurnEnd}
use Rattle.book_parts.specs.declared.turn.TurnEnd.TheVariants.{Close, Move, Emit}
use Rattle.elbow_graph.specs.declared.elbow.Elbow.{Elbow}
use Rattle.elbow_graph.specs.declared.exit.Exit.{Exit}
use Rattle.elbow_graph.specs.declared.goal.Goal.{Goal}
use Rattle.elbow_graph.specs.declared.goal.Goal.TheVariants as goals
use Rattle.elbow_graph.specs.Elbows.{elbow, leaves}
use Rattle.elbow_graph.specs.Exits.{exits_of}
use Rattle.elbow_graph.specs.Goals.{MayPass, IsEnd, Passes, IsRoute}
use Rattle.elbow_graph.specs.Numbered.{IsNumbered}
use Rattle.elbow_graph.specs.NumberedLaws.{numbered_once, turn_numbered}
use Rattle.event_times.specs.TimedTurns.{Timed}
use Rattle.plan_facts.specs.Happenings.{SalvoHit, Happening}
use Rattle.plan_facts.specs.Happenings.Happening.{Turns, Hits}
use Rattle.plan_facts.specs.State.{State, Hand}
use Rattle.plan_facts.specs.MayTurn.{IsSoundHere, MayTurn, after_turn, lane_thrown}
use Rattle.plan_facts.specs.MayHit.{MayHit, after_hit}
use Rattle.plan_facts.specs.Facts.{AllMayCome, after_all}
use Rattle.plan_facts.specs.ListLaws.{both_may, after_both}
use Rattle.recipe_turn.specs.Checked.{raws}
use Rattle.recipe_book.specs.Checked.{CheckedEntries}
use Rattle.build_plan.specs.declared.event.Event.{Event}
use Rattle.build_plan.specs.declared.event.Event.TheVariants.{Turn, Hit}
use Rattle.build_plan.specs.Numbers.{item_of}
use Rattle.build_plan.specs.NumberLaws.{item_numbered}
use Rattle.build_plan.specs.TurnEvents.{moved_by, elbow_past, elbow_after, turn_events}
use Rattle.build_plan.specs.Happenings.{IsHitOf, AllStandFor}

-- ---- events stand for what happens

-- what the first events stand for, and what the others do
pub record Split (book : CheckedEntries) (first second : List Event) (happenings : List Happening) : Type 0 where
  pub before : List Happening
  pub after : List Happening
  pub is : happenings ≡ before ++ after
  pub first_stand : AllStandFor book first before
  pub second_stand : AllStandFor book second after

pub split : (book : CheckedEntries) (first second : List Event) (happenings : List Happening) → AllStandFor book (first ++ second) happenings → Split book first second happenings
split book [] second happenings h = record { before = []; after = happenings; is = refl; first_stand = tt; second_stand = h }
split book (event ∷ first) second [] h = absurd h
split book (event ∷ first) second (happening ∷ happenings) h =
    let rest = split book first second happenings h.1 in
    record { before = happening ∷ rest.before; after = rest.after; is = ap (λ (l : List Happening). happening ∷ l) rest.is; first_stand = (h.0, rest.first_stand); second_stand = rest.second_stand }

-- ---- events that may come

module _ (book : CheckedEntries) where
  -- all this may come, and leads there
  pub record Comes (state : State) (happenings : List Happening) (end : State) : Type 0 where
    pub all_may : AllMayCome book.settings book.kinds (alive book.hand) state happenings
    pub ends : after_all state happenings ≡ end

  -- whatever the events stand for may come, and leads there
  abbrev pub Goes : State → List Event → State → Type 0
  Goes state events end = (happenings : List Happening) → AllStandFor book events happenings → Comes state happenings end

  pub goes_nowhere : (state : State) → Goes state [] state
  goes_nowhere state [] stand = record { all_may = tt; ends = refl }
  goes_nowhere state (happening ∷ happenings) stand = absurd stand

  pub goes_on : (state middle end : State) (first second : List Event) → Goes state first middle → Goes middle second end → Goes state (first ++ second) end
  goes_on state middle end first second a b happenings stand =
      let parts = split book first second happenings stand in
      let one = a parts.before parts.first_stand in
      let other = b parts.after parts.second_stand in
      subst (λ (l : List Happening). Comes state l end) (sym parts.is) (record {
        all_may = both_may book.settings book.kinds (alive book.hand) state parts.before parts.after one.all_may
            (subst (λ (s : State). AllMayCome book.settings book.kinds (alive book.hand) s parts.after) (sym one.ends) other.all_may);
        ends = after_both state parts.before parts.after ∙ ap (λ (s : State). after_all s parts.after) one.ends ∙ other.ends;
      })

  -- a turn first, and then the others from where it leads
  pub turn_first : (state end : State) (number : ℕ) (shift : ℤ) (events : List Event) →
      ((m : Timed) → IsNumbered (raws book.turns) number m.turn → m.shift ≡ shift → MayTurn book.settings book.kinds state m × Goes (after_turn state m) events end) → Goes state (Turn number shift ∷ events) end
  turn_first state end number shift events each [] stand = absurd stand
  turn_first state end number shift events each (Hits h ∷ happenings) stand = absurd stand.0
  turn_first state end number shift events each (Turns m ∷ happenings) stand =
      let here = each m stand.0.0 stand.0.1 in
      let rest = here.1 happenings stand.1 in
      record { all_may = (here.0, rest.all_may); ends = rest.ends }

  -- a hit first, and then the others from where it leads
  pub hit_first : (state end : State) (number place : ℕ) (at : Cell) (events : List Event) →
      ((h : SalvoHit) → IsHitOf book number place at h → MayHit book.settings (alive book.hand) state h × Goes (after_hit state h) events end) → Goes state (Hit number place at ∷ events) end
  hit_first state end number place at events each [] stand = absurd stand
  hit_first state end number place at events each (Turns m ∷ happenings) stand = absurd stand.0
  hit_first state end number place at events each (Hits h ∷ happenings) stand =
      let here = each h stand.0 in
      let rest = here.1 happenings stand.1 in
      record { all_may = (here.0, rest.all_may); ends = rest.ends }

-- ---- the turns for a lane, and those that close

abbrev pub rests_at : Option Elbow → Option ℤ → Hand → Plane → State
rests_at at waits hand built = record { elbow = at; waits = waits; hand = hand; built = built }

-- each of the book's turns is sound, at whatever shift and time
abbrev pub AreSoundTurns : CheckedEntries → Type 0
AreSoundTurns book = (k : ℕ) (turn : RawTurn) → IsNumbered (raws book.turns) k turn → (shift : ℤ) (start : ℕ) → IsSoundHere book.settings book.kinds (record { turn = turn; shift = shift; start = start })

-- the turn with a number begins at this elbow
pub record TurnAt (turns : List RawTurn) (exit : Exit) (number : ℕ) (from : Elbow) : Type 0 where
  pub turn : RawTurn
  pub numbered : IsNumbered turns number turn
  pub kind : turn.kind ≡ from.kind
  pub end : turn.end ≡ exit.end

pub turn_at : (turns : List RawTurn) (exit : Exit) (number : ℕ) (from : Elbow) → IsNumbered (exits_of turns) number exit → exit.kind ≡ from.kind → TurnAt turns exit number from
turn_at turns exit number from numbered kind =
    let t = turn_numbered turns number exit numbered in
    record { turn = t.0; numbered = t.1.0; kind = ap (λ (e : Exit). e.kind) t.1.1 ∙ kind; end = ap (λ (e : Exit). e.end) t.1.1 }

-- where a turn leads is where it moves the elbow
pub moves_there : (end : TurnEnd) (from to : Elbow) → leaves end from.shift ≡ Some to → moved_by end from ≡ to
moves_there Close from to h = absurd (cc)
moves_there (Move kind advance) from to h = cc
moves_there (Emit kind advance lane j) from to h = cc

-- where a numbered turn moves the elbow
pub past_is : (turns : List RawTurn) (exit : Exit) (number : ℕ) (from : Elbow) → TurnAt turns exit number from → elbow_past (item_of turns number) from ≡ moved_by exit.end from
past_is turns exit number from t = ap (λ (o : Option RawTurn). elbow_past o from) (item_numbered turns number t.turn t.numbered) ∙ ap (λ (e : TurnEnd). moved_by e from) t.end

module _ (book : CheckedEntries) (sound : AreSoundTurns book) (hand : Hand) (built : Plane) where
  abbrev turns : List RawTurn
  turns = raws book.turns

  -- the state with this elbow
  abbrev with_elbow : Option Elbow → Option ℤ → State
  with_elbow at waits = rests_at at waits hand built

  -- a turn that begins at the elbow may come, and its end says where it leads
  turn_goes : (exit : Exit) (number : ℕ) (from : Elbow) (events : List Event) (end : State) → TurnAt turns exit number from →
      Goes book (with_elbow (leaves exit.end from.shift) (lane_thrown exit.end from.shift)) events end → Goes book (with_elbow (Some from) None) (Turn number from.shift ∷ events) end
  turn_goes exit number from events end t rest =
      turn_first book (with_elbow (Some from) None) end number from.shift events (λ m numbered shift.
      let turn : m.turn ≡ t.turn = numbered_once turns number m.turn t.turn numbered t.numbered in
      let same : elbow t.turn.kind from.shift ≡ elbow m.turn.kind m.shift = λ i. elbow (sym turn i).kind (sym shift i) in
      let own : from ≡ elbow t.turn.kind from.shift = λ i. elbow (sym t.kind i) from.shift in
      let ends : exit.end ≡ m.turn.end = sym t.end ∙ ap (λ (x : RawTurn). x.end) (sym turn) in (
        record { none_waits = refl; elbow_is = ap Some (own ∙ same); sound = sound number m.turn numbered m.shift m.start },
        subst (λ (s : State). Goes book s events end) (λ i. with_elbow (leaves (ends i) (sym shift i)) (lane_thrown (ends i) (sym shift i))) rest,
      ))

  -- a turn that may pass on the way moves the elbow and throws nothing
  pass_goes : (goal : Goal) → ((kind : ℕ) (advance lane j : ℤ) → MayPass goal (Emit kind advance lane j) → ⊥) → (number : ℕ) (from to : Elbow) (events : List Event) (end : State) →
      Passes (exits_of turns) book.settings.span goal number from to → Goes book (with_elbow (Some to) None) events end → Goes book (with_elbow (Some from) None) (Turn number from.shift ∷ events) end
  pass_goes goal no_throw number from to events end p rest =
      turn_goes p.exit number from events end (turn_at turns p.exit number from p.numbered p.leads.kind) (by p.exit.end p.may p.leads.leaves_it)
    where
      by : (e : TurnEnd) → MayPass goal e → leaves e from.shift ≡ Some to → Goes book (with_elbow (leaves e from.shift) (lane_thrown e from.shift)) events end
      by Close may is = absurd may
      by (Move kind advance) may is = subst (λ (o : Option Elbow). Goes book (with_elbow o None) events end) (sym is) rest
      by (Emit kind advance lane j) may is = absurd (no_throw kind advance lane j may)

  -- the elbow after a turn on the way
  pass_past : (goal : Goal) (number : ℕ) (from to : Elbow) → Passes (exits_of turns) book.settings.span goal number from to → elbow_past (item_of turns number) from ≡ to
  pass_past goal number from to p =
      past_is turns p.exit number from (turn_at turns p.exit number from p.numbered p.leads.kind) ∙ moves_there p.exit.end from to p.leads.leaves_it

  -- the turns of a list that serves a lane
  pub lane_goes : (lane : ℤ) (from : Elbow) (list : List ℕ) → IsRoute (exits_of turns) book.settings.span (goals.Lane lane) from list →
      Goes book (with_elbow (Some from) None) (turn_events turns from list) (with_elbow (Some (elbow_after turns from list)) (Some lane))
  lane_goes lane from [] route = absurd route
  lane_goes lane from (k ∷ ks) (inl last) =
      subst (λ (l : List ℕ). Goes book (with_elbow (Some from) None) (turn_events turns from (k ∷ l)) (with_elbow (Some (elbow_after turns from (k ∷ l))) (Some lane))) (sym last.1)
      (turn_goes last.0.exit k from [] (with_elbow (Some (elbow_past (item_of turns k) from)) (Some lane)) at (by last.0.exit.end last.0.end (past_is turns last.0.exit k from at)))
    where
      at : TurnAt turns last.0.exit k from
      at = turn_at turns last.0.exit k from last.0.numbered last.0.kind

      by : (e : TurnEnd) → IsEnd (goals.Lane lane) book.settings.span e from.shift → elbow_past (item_of turns k) from ≡ moved_by e from →
          Goes book (with_elbow (leaves e from.shift) (lane_thrown e from.shift)) [] (with_elbow (Some (elbow_past (item_of turns k) from)) (Some lane))
      by Close end past = absurd end
      by (Move kind advance) end past = absurd end
      by (Emit kind advance on j) end past =
          subst (λ (s : State). Goes book (with_elbow (Some (elbow kind (from.shift +ℤ advance))) (Some (on +ℤ pos 2 *ℤ from.shift))) [] s) (λ i. with_elbow (Some (sym past i)) (Some (end.0 i)))
          (goes_nowhere book (with_elbow (Some (elbow kind (from.shift +ℤ advance))) (Some (on +ℤ pos 2 *ℤ from.shift))))
  lane_goes lane from (k ∷ ks) (inr on) =
      pass_goes (goals.Lane lane) (λ kind advance l j may. may) k from on.0 (turn_events turns (elbow_past (item_of turns k) from) ks) (with_elbow (Some (elbow_after turns (elbow_past (item_of turns k) from) ks)) (Some lane)) on.1.0
      (subst (λ (e : Elbow). Goes book (with_elbow (Some on.0) None) (turn_events turns e ks) (with_elbow (Some (elbow_after turns e ks)) (Some lane))) (sym (pass_past (goals.Lane lane) k from on.0 on.1.0))
      (lane_goes lane on.0 ks on.1.1))

  -- the turns of a list that closes the elbow
  pub closing_goes : (from : Elbow) (list : List ℕ) → IsRoute (exits_of turns) book.settings.span goals.Closed from list → Goes book (with_elbow (Some from) None) (turn_events turns from list) (with_elbow None None)
  closing_goes from [] route = absurd route
  closing_goes from (k ∷ ks) (inl last) =
      subst (λ (l : List ℕ). Goes book (with_elbow (Some from) None) (turn_events turns from (k ∷ l)) (with_elbow None None)) (sym last.1)
      (turn_goes last.0.exit k from [] (with_elbow None None) (turn_at turns last.0.exit k from last.0.numbered last.0.kind) (by last.0.exit.end last.0.end))
    where
      by : (e : TurnEnd) → IsEnd goals.Closed book.settings.span e from.shift → Goes book (with_elbow (leaves e from.shift) (lane_thrown e from.shift)) [] (with_elbow None None)
      by Close end = goes_nowhere book (with_elbow None None)
      by (Move kind advance) end = absurd end
      by (Emit kind advance on j) end = absurd end
  closing_goes from (k ∷ ks) (inr on) =
      pass_goes goals.Closed (λ kind advance l j may. may) k from on.0 (turn_events turns (elbow_past (item_of turns k) from) ks) (with_elbow None None) on.1.0
      (subst (λ (e : Elbow). Goes book (with_elbow (Some on.0) None) (turn_events turns e ks) (with_elbow None None)) (sym (pass_past goals.Closed k from on.0 on.1.0)) (closing_goes on.0 ks on.1.1))
