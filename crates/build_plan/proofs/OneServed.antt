-- Gliders are thrown from an elbow by one list of events.
use Rattle.std.specs.Prelude.{◌≡◌, ℕ, ℤ, List, [], ◌∷◌, ◌++◌}
use Rattle.std.proofs.Common.{sym, subst, ◌∙◌}
use Rattle.book_parts.specs.declared.turn.RawTurn.{RawTurn}
use Rattle.elbow_graph.specs.declared.elbow.Elbow.{Elbow}
use Rattle.build_plan.specs.TurnEvents.{turn_events, elbow_after}
use Rattle.build_plan.specs.Served.{AreServed, hit_event}
use Rattle.build_plan.specs.declared.event.Event.{Event}
use Rattle.build_plan.specs.declared.throw.Throw.{Throw}
use Rattle.build_plan.proofs.Leasts.{ServingIsOne}

module _ (serving : ServingIsOne) (turns : List RawTurn) (span : ℤ) where
  pub served_once : (throws : List Throw) (from : Elbow) (a b : List Event) (c d : Elbow) → AreServed turns span from throws a c → AreServed turns span from throws b d → (a ≡ b) × (c ≡ d)
  served_once [] from a b c d h k = (h.0 ∙ sym k.0, h.1 ∙ sym k.1)
  served_once (throw ∷ throws) from a b c d (list, (rest, (least, (is, on)))) (other, (more, (least_other, (is_other, on_other)))) =
      let lists : other ≡ list = serving turns span throw.lane from other list least_other least in
      let on_same : AreServed turns span (elbow_after turns from list) throws more d = subst (λ (l : List ℕ). AreServed turns span (elbow_after turns from l) throws more d) lists on_other in
      let rests = served_once throws (elbow_after turns from list) rest more c d on on_same in
      (is ∙ (λ i. turn_events turns from (sym lists i) ++ hit_event throw ∷ rests.0 i) ∙ sym is_other, rests.1)
