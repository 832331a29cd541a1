use Rattle.std.proofs.Common.{◌≡◌, ℤ, sym, subst, arith, w64, to_z, of_z}
use Rattle.std.proofs.lemmas.Int.{ints}
use Rattle.breadth_search.specs.Leads.{IsFirstEnd}
use Rattle.elbow_graph.specs.declared.goal.Goal.TheVariants as goals
use Rattle.elbow_graph.specs.Goals.{Ends}
use Rattle.elbow_graph.proofs.way.WayEndingElbow.ending.Goals as goal

pub returns-in-Closed : goal.returns-in-Closed
returns-in-Closed c = subst (λ g. IsFirstEnd (Ends c.args.self.now.graph.now c.args.self.now.span g) c.args.at c.closing.result) (sym c.in-Closed.is) (c.closing.ensures _)

pub returns-in-Lane : goal.returns-in-Lane
returns-in-Lane c =
    let span_is : to_z w64 (of_z w64 c.args.self.now.span) ≡ c.args.self.now.span = omega (arith, ints) in
    let lane_is : to_z w64 (of_z w64 c.in-Lane.wanted) ≡ c.in-Lane.wanted = omega (arith, ints) in
    subst (λ g. IsFirstEnd (Ends c.args.self.now.graph.now c.args.self.now.span g) c.args.at c.throwing.result) (sym c.in-Lane.is)
    (subst (λ (z : ℤ). IsFirstEnd (Ends c.args.self.now.graph.now z (goals.Lane c.in-Lane.wanted)) c.args.at c.throwing.result) span_is
    (subst (λ (z : ℤ). IsFirstEnd (Ends c.args.self.now.graph.now (to_z w64 (of_z w64 c.args.self.now.span)) (goals.Lane z)) c.args.at c.throwing.result) lane_is c.throwing.ensures))
