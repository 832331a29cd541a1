-- Gliders thrown one after the other, part by part.
use Rattle.std.specs.Prelude.{◌≡◌, ℤ, List, [], ◌∷◌, ◌++◌}
use Rattle.std.proofs.Common.{refl, sym, ap, subst, ◌∙◌, append_assoc}
use Rattle.book_parts.specs.declared.turn.RawTurn.{RawTurn}
use Rattle.elbow_graph.specs.declared.elbow.Elbow.{Elbow}
use Rattle.build_plan.specs.TurnEvents.{turn_events, elbow_after}
use Rattle.build_plan.specs.Served.{AreServed, hit_event}
use Rattle.build_plan.specs.declared.event.Event.{Event}
use Rattle.build_plan.specs.declared.throw.Throw.{Throw}

-- two lists of gliders are thrown one after the other
pub record ServedBoth (turns : List RawTurn) (span : ℤ) (from : Elbow) (first second : List Throw) (events : List Event) (to : Elbow) : Type 0 where
  pub middle : Elbow
  pub before : List Event
  pub after : List Event
  pub first_served : AreServed turns span from first before middle
  pub second_served : AreServed turns span middle second after to
  pub events_are : events ≡ before ++ after

pub served_both : (turns : List RawTurn) (span : ℤ) (first second : List Throw) (from to : Elbow) (events : List Event) → AreServed turns span from (first ++ second) events to →
    ServedBoth turns span from first second events to
served_both turns span [] second from to events h = record { middle = from; before = []; after = events; first_served = (refl, refl); second_served = h; events_are = refl }
served_both turns span (throw ∷ first) second from to events (list, (rest, (least, (is, on)))) =
    let b = served_both turns span first second (elbow_after turns from list) to rest on in
    record {
      middle = b.middle;
      before = turn_events turns from list ++ hit_event throw ∷ b.before;
      after = b.after;
      first_served = (list, (b.before, (least, (refl, b.first_served))));
      second_served = b.second_served;
      events_are =
          is ∙ ap (λ (l : List Event). turn_events turns from list ++ hit_event throw ∷ l) b.events_are
          ∙ sym (append_assoc (turn_events turns from list) (hit_event throw ∷ b.before) b.after);
    }

pub served_after : (turns : List RawTurn) (span : ℤ) (first second : List Throw) (from middle to : Elbow) (before after : List Event) →
    AreServed turns span from first before middle → AreServed turns span middle second after to → AreServed turns span from (first ++ second) (before ++ after) to
served_after turns span [] second from middle to before after h k =
    subst (λ (l : List Event). AreServed turns span from second (l ++ after) to) (sym h.0) (subst (λ (e : Elbow). AreServed turns span e second after to) h.1 k)
served_after turns span (throw ∷ first) second from middle to before after (list, (rest, (least, (is, on)))) k = (
  list,
  (
    rest ++ after,
    (
      least,
      (
        ap (λ (l : List Event). l ++ after) is ∙ append_assoc (turn_events turns from list) (hit_event throw ∷ rest) after,
        served_after turns span first second (elbow_after turns from list) middle to rest after on k,
      ),
    ),
  ),
)
