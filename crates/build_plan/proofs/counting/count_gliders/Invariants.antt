use Rattle.std.proofs.Common.{◌≡◌, ◌+◌, drop}
use Rattle.recipe_turn.specs.Checked.{raws}
use Rattle.build_plan.specs.TurnEvents.{gliders_of}
use Rattle.build_plan.proofs.counting.count_gliders.Given as goal

abbrev pub invariant-loop-event : goal.invariant-loop-event
invariant-loop-event l = l.count + gliders_of (raws l.turns) (drop l.event-index l.events) ≡ gliders_of (raws l.turns) l.events
