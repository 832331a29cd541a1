use Rattle.std.proofs.Common.{ℤ, subst, arith}
use Rattle.std.proofs.lemmas.Int.{ints}
use Rattle.breadth_search.specs.Leads.{IsFirstLead}
use Rattle.elbow_graph.specs.Goals.{Passes}
use Rattle.elbow_graph.proofs.LastTurns.{first_passes}
use Rattle.elbow_graph.proofs.Leading.{first_by}
use Rattle.elbow_graph.proofs.way.WayGraphElbow.first.Goals as goal

pub returns : goal.returns
returns c =
    subst (λ (z : ℤ). IsFirstLead (Passes c.args.self.now.graph.now z c.args.self.now.goal) c.args.at 0 c.first_leading.result) (omega (arith, ints))
    (first_passes _ _ _ _ _ _ (first_by _ _ _ _ _ _ _ _ _ c.passing-table.ensures c.at_kind.ensures c.first_leading.ensures))
