use Rattle.build_plan.proofs.Tried.{AreTried}
use Rattle.build_plan.proofs.search.Search.first_usable.Given as goal

abbrev pub invariant-loop-number : goal.invariant-loop-number
invariant-loop-number l = AreTried l.fn.self l.fn.walk l.number-items l.number-index l.self l.walk
