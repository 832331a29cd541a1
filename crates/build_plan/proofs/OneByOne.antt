-- Gliders thrown one by one.
use Rattle.std.specs.Prelude.{◌≡◌, ℕ, suc, ◌<◌, ◌≤◌, ℤ, ◌+ℤ◌, ◌≤ℤ◌, List, [], ◌∷◌, ◌++◌, length, drop, get_or}
use Rattle.std.specs.declared.option.Option.TheVariants.{Some}
use Rattle.std.proofs.Common.{refl, sym, ap, subst, ◌∙◌, arith, append_assoc, append-nil, inl, inr}
use Rattle.std.proofs.Math.Seq.{drop-cons}
use Rattle.std.proofs.lemmas.Int.{ints}
use Rattle.std.proofs.lemmas.List.{drop_all}
use Rattle.book_parts.specs.declared.turn.RawTurn.{RawTurn}
use Rattle.book_parts.specs.declared.turn.TurnEnd.{TurnEnd}
use Rattle.book_parts.specs.declared.turn.TurnEnd.TheVariants.{Close, Move, Emit}
use Rattle.elbow_graph.specs.declared.elbow.Elbow.{Elbow}
use Rattle.elbow_graph.specs.declared.goal.Goal.{Goal}
use Rattle.elbow_graph.specs.declared.goal.Goal.TheVariants as goals
use Rattle.elbow_graph.specs.Elbows.{elbow, leaves, IsInSpan}
use Rattle.elbow_graph.specs.Exits.{exits_of}
use Rattle.elbow_graph.specs.Goals.{IsEnd, IsRoute}
use Rattle.elbow_route.specs.Lists.{IsLeastServing}
use Rattle.build_plan.specs.declared.event.Event.{Event}
use Rattle.build_plan.specs.declared.throw.Throw.{Throw}
use Rattle.build_plan.specs.Numbers.{item_of}
use Rattle.build_plan.specs.TurnEvents.{elbow_past, elbow_after, turn_events}
use Rattle.build_plan.specs.Served.{hit_event, AreServed}
use Rattle.build_plan.specs.Walked.{IsNearEnd, AreWalked}
use Rattle.build_plan.proofs.Goes.{turn_at, past_is, moves_there}

-- ---- the turns of a list that serves a goal can be walked

near_left : (span : ℤ) (end : TurnEnd) (from to : Elbow) → leaves end from.shift ≡ Some to → IsInSpan span to → IsNearEnd span end from
near_left span Close from to h near = tt
near_left span (Move kind advance) from to h near = let is : to ≡ elbow kind (from.shift +ℤ advance) = cc in subst (IsInSpan span) is near
near_left span (Emit kind advance lane j) from to h near = let is : to ≡ elbow kind (from.shift +ℤ advance) = cc in subst (IsInSpan span) is near

near_last : (span : ℤ) (goal : Goal) (end : TurnEnd) (from : Elbow) → IsEnd goal span end from.shift → IsNearEnd span end from
near_last span goals.Anywhere end from h = absurd h
near_last span goals.Closed Close from h = tt
near_last span goals.Closed (Move kind advance) from h = absurd h
near_last span goals.Closed (Emit kind advance lane j) from h = absurd h
near_last span (goals.Lane wanted) Close from h = absurd h
near_last span (goals.Lane wanted) (Move kind advance) from h = absurd h
near_last span (goals.Lane wanted) (Emit kind advance lane j) from h = h.1

pub route_walked : (turns : List RawTurn) (span : ℤ) (goal : Goal) (from : Elbow) (list : List ℕ) → IsRoute (exits_of turns) span goal from list → AreWalked turns span from list
route_walked turns span goal from [] route = absurd route
route_walked turns span goal from (k ∷ ks) (inl last) =
    let at = turn_at turns last.0.exit k from last.0.numbered last.0.kind in (
      record { turn = at.turn; numbered = at.numbered; near = subst (λ (e : TurnEnd). IsNearEnd span e from) (sym at.end) (near_last span goal last.0.exit.end from last.0.end) },
      subst (AreWalked turns span (elbow_past (item_of turns k) from)) (sym last.1) tt,
    )
route_walked turns span goal from (k ∷ ks) (inr on) =
    let p = on.1.0 in
    let at = turn_at turns p.exit k from p.numbered p.leads.kind in
    let past : elbow_past (item_of turns k) from ≡ on.0 = past_is turns p.exit k from at ∙ moves_there p.exit.end from on.0 p.leads.leaves_it in (
      record { turn = at.turn; numbered = at.numbered; near = subst (λ (e : TurnEnd). IsNearEnd span e from) (sym at.end) (near_left span p.exit.end from on.0 p.leads.leaves_it p.leads.near) },
      subst (λ (e : Elbow). AreWalked turns span e ks) (sym past) (route_walked turns span goal on.0 ks on.1.1),
    )

-- and in a wider span
pub near_wider : (span wide : ℤ) (end : TurnEnd) (from : Elbow) → span ≤ℤ wide → IsNearEnd span end from → IsNearEnd wide end from
near_wider span wide Close from le near = tt
near_wider span wide (Move kind advance) from le near = record { low = omega (arith, ints, near.low); high = omega (arith, ints, near.high) }
near_wider span wide (Emit kind advance lane j) from le near = record { low = omega (arith, ints, near.low); high = omega (arith, ints, near.high) }

-- ---- gliders one by one

-- the gliders before a place are thrown: what throws those from there on throws them all, and the other way round
pub record IsServedUpTo (turns : List RawTurn) (span : ℤ) (throws : List Throw) (first : Elbow) (before : List Event) (place : ℕ) (at : Elbow) (events : List Event) : Type 0 where
  pub done : List Event
  pub events_are : events ≡ before ++ done
  pub on : (rest : List Event) (to : Elbow) → AreServed turns span at (drop place throws) rest to → AreServed turns span first throws (done ++ rest) to
  pub back : (all : List Event) (to : Elbow) → AreServed turns span first throws all to → (rest : List Event) × AreServed turns span at (drop place throws) rest to

module _ (turns : List RawTurn) (span : ℤ) (throws : List Throw) (first : Elbow) (before : List Event) where
  pub served_none : IsServedUpTo turns span throws first before 0 first before
  served_none = record { done = []; events_are = sym (append-nil before); on = λ rest to h. h; back = λ all to h. (all, h) }

  -- what throws those from a place on begins with the glider there
  rest_split : (place : ℕ) (d : Throw) (at to : Elbow) (rest : List Event) → place < length throws → AreServed turns span at (drop place throws) rest to →
      AreServed turns span at (get_or throws place d ∷ drop (suc place) throws) rest to
  rest_split place d at to rest lt h = subst (λ (l : List Throw). AreServed turns span at l rest to) (drop-cons throws place d lt) h

  -- one glider more
  pub served_more : ((lane : ℤ) (from : Elbow) (a b : List ℕ) → IsLeastServing turns span lane from a → IsLeastServing turns span lane from b → a ≡ b) →
      (place : ℕ) (d : Throw) (at next : Elbow) (events : List Event) (list : List ℕ) → place < length throws → IsServedUpTo turns span throws first before place at events →
      IsLeastServing turns span (get_or throws place d).lane at list → next ≡ elbow_after turns at list →
      IsServedUpTo turns span throws first before (suc place) next ((events ++ turn_events turns at list) ++ hit_event (get_or throws place d) ∷ [])
  served_more one place d at next events list lt s least is = record {
    done = s.done ++ (turn_events turns at list ++ hit_event throw ∷ []);
    events_are =
        ap (λ (l : List Event). (l ++ turn_events turns at list) ++ hit_event throw ∷ []) s.events_are
        ∙ ap (λ (l : List Event). l ++ hit_event throw ∷ []) (append_assoc before s.done (turn_events turns at list))
        ∙ append_assoc before (s.done ++ turn_events turns at list) (hit_event throw ∷ [])
        ∙ ap (λ (l : List Event). before ++ l) (append_assoc s.done (turn_events turns at list) (hit_event throw ∷ []));
    on = λ rest to h.
        let same : (s.done ++ (turn_events turns at list ++ hit_event throw ∷ [])) ++ rest ≡ s.done ++ (turn_events turns at list ++ hit_event throw ∷ rest) =
        append_assoc s.done (turn_events turns at list ++ hit_event throw ∷ []) rest ∙ ap (λ (l : List Event). s.done ++ l) (append_assoc (turn_events turns at list) (hit_event throw ∷ []) rest) in
        subst (λ (l : List Event). AreServed turns span first throws l to) (sym same)
        (s.on (turn_events turns at list ++ hit_event throw ∷ rest) to
        (subst (λ (l : List Throw). AreServed turns span at l (turn_events turns at list ++ hit_event throw ∷ rest) to) (sym (drop-cons throws place d lt))
        (list, (rest, (least, (refl, subst (λ (e : Elbow). AreServed turns span e (drop (suc place) throws) rest to) is h))))));
    back = λ all to h. after to (rest_split place d at to (s.back all to h).0 lt (s.back all to h).1);
  }
    where
      throw : Throw
      throw = get_or throws place d

      after : (to : Elbow) {rest : List Event} → AreServed turns span at (get_or throws place d ∷ drop (suc place) throws) rest to → (more : List Event) × AreServed turns span next (drop (suc place) throws) more to
      after to (other, (more, (least_other, (is_other, on)))) =
          (more, subst (λ (e : Elbow). AreServed turns span e (drop (suc place) throws) more to) (ap (elbow_after turns at) (one throw.lane at other list least_other least) ∙ sym is) on)

  -- all gliders
  pub served_all : (place : ℕ) (at : Elbow) (events : List Event) → length throws ≤ place → IsServedUpTo turns span throws first before place at events →
      (more : List Event) × ((events ≡ before ++ more) × AreServed turns span first throws more at)
  served_all place at events le s =
      let end : AreServed turns span at (drop place throws) [] at = subst (λ (l : List Throw). AreServed turns span at l [] at) (sym (drop_all place throws le)) (refl, refl) in
      (s.done, (s.events_are, subst (λ (l : List Event). AreServed turns span first throws l at) (append-nil s.done) (s.on [] at end)))

  -- a glider whose lane has no list
  pub served_not : (place : ℕ) (d : Throw) (at : Elbow) (events : List Event) → place < length throws → IsServedUpTo turns span throws first before place at events →
      ((list : List ℕ) → IsLeastServing turns span (get_or throws place d).lane at list → ⊥) → (all : List Event) (to : Elbow) → AreServed turns span first throws all to → ⊥
  served_not place d at events lt s none all to h = let b = s.back all to h in none _ (rest_split place d at to b.0 lt b.1).1.1.0
