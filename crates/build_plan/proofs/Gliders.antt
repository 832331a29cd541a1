-- The stream gliders of events, one part after another.
use Rattle.std.specs.Prelude.{◌≡◌, ◌+◌, List, [], ◌∷◌, ◌++◌}
use Rattle.std.proofs.Common.{refl, sym, ap, ◌∙◌, arith, append_assoc}
use Rattle.book_parts.specs.declared.turn.RawTurn.{RawTurn}
use Rattle.build_plan.specs.declared.event.Event.{Event}
use Rattle.build_plan.specs.declared.event.Event.TheVariants.{Turn, Hit}
use Rattle.build_plan.specs.TurnEvents.{gliders_of}
use Rattle.build_plan.specs.Usable.{Taken}
use Rattle.build_plan.specs.Plan.{taken_events}

pub gliders_both : (turns : List RawTurn) (first second : List Event) → gliders_of turns (first ++ second) ≡ gliders_of turns first + gliders_of turns second
gliders_both turns [] second = omega arith
gliders_both turns (Turn number shift ∷ first) second = let rest = gliders_both turns first second in omega arith
gliders_both turns (Hit salvo place at ∷ first) second = gliders_both turns first second

pub events_both : (first second : List Taken) → taken_events (first ++ second) ≡ taken_events first ++ taken_events second
events_both [] second = refl
events_both (taken ∷ first) second = ap (λ (l : List Event). taken.events ++ l) (events_both first second) ∙ sym (append_assoc taken.events (taken_events first) (taken_events second))
