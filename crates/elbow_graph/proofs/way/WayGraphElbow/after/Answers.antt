use Rattle.std.proofs.Common.{ℤ, suc, subst, arith}
use Rattle.std.proofs.lemmas.Int.{ints}
use Rattle.breadth_search.specs.Leads.{IsFirstLead}
use Rattle.elbow_graph.specs.Goals.{Passes}
use Rattle.elbow_graph.proofs.LastTurns.{first_passes}
use Rattle.elbow_graph.proofs.Leading.{first_by}
use Rattle.elbow_graph.proofs.way.WayGraphElbow.after.Goals as goal

pub returns : goal.returns
returns c =
    subst (λ (z : ℤ). IsFirstLead (Passes c.args.self.now.graph.now z c.args.self.now.goal) c.args.at (suc c.args.number) c.first_leading.result) (omega (arith, ints))
    (first_passes _ _ _ _ _ _ (first_by _ _ _ _ _ _ _ _ _ c.passing-table.ensures c.at_kind.ensures c.first_leading.ensures))
