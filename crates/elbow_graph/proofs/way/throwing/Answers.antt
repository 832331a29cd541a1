use Rattle.std.proofs.Common.{ℤ, ℕ, Some, subst, arith, to_z, of_z}
use Rattle.std.specs.Int.{w128}
use Rattle.std.proofs.lemmas.Int.{ints}
use Rattle.breadth_search.specs.Leads.{IsFirstEnd}
use Rattle.elbow_graph.specs.declared.goal.Goal.TheVariants as goals
use Rattle.elbow_graph.specs.Goals.{Ends}
use Rattle.elbow_graph.proofs.LastTurns.{none_throws, first_throws}
use Rattle.elbow_graph.proofs.way.throwing.Goals as goal

pub returns-in-Some : goal.returns-in-Some
returns-in-Some c =
    subst (λ (z : ℤ). IsFirstEnd (Ends c.args.graph.now z (goals.Lane c.args.wanted)) c.args.at (Some c.in-Some.lead.number)) (omega (arith, ints))
    (first_throws _ _ _ _ (to_z w128 (of_z w128 c.lane_at.result)) (let is = c.lane_at.ensures in omega (arith, ints)) _ _ c.in-Some.is c.first_leading.ensures)

pub returns-in-None : goal.returns-in-None
returns-in-None c =
    subst (λ (z : ℤ). (k : ℕ) → Ends c.args.graph.now z (goals.Lane c.args.wanted) k c.args.at → ⊥) (omega (arith, ints))
    (none_throws _ _ _ _ (to_z w128 (of_z w128 c.lane_at.result)) (let is = c.lane_at.ensures in omega (arith, ints)) _ c.in-None.is c.first_leading.ensures)
