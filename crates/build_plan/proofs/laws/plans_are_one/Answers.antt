use Rattle.elbow_graph.specs.declared.goal.Goal.TheVariants.{Closed, Lane}
use Rattle.build_plan.proofs.Leasts.{LeastAreOne}
use Rattle.build_plan.proofs.OneStop.{plan_once}
use Rattle.build_plan.proofs.laws.plans_are_one.Goals as goal

pub returns : goal.returns
returns c =
    let one : LeastAreOne = record {
      serving = λ turns span lane. c.least_lists_are_one.ensures turns span (Lane lane);
      closing = λ turns span. c.least_lists_are_one.ensures turns span Closed;
      hand = c.hand_lists_are_one.ensures;
      farewell = c.farewells_are_one.ensures;
    } in
    plan_once one
