use Rattle.std.proofs.Common.{length}
use Rattle.breadth_search.specs.Search.{bound_past}
use Rattle.elbow_graph.proofs.Leading.{IsSought, left}
use Rattle.elbow_graph.proofs.way.first_leading.Given as goal

abbrev pub invariant-turns : goal.invariant-turns
invariant-turns l = IsSought l.fn.table l.graph l.span l.fn.key l.at (bound_past l.fn.past) l.place

abbrev pub decreases-turns : goal.decreases-turns
decreases-turns l = left (length l.graph) l.place
