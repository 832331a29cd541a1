use Rattle.find_salvo.proofs.Stands.{TriedTo}
use Rattle.find_salvo.proofs.standing.first_stand.Given as goal

abbrev pub invariant-loop-cell : goal.invariant-loop-cell
invariant-loop-cell l = TriedTo l.hand l.left l.first l.cell-index
