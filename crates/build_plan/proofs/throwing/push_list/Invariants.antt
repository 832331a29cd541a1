use Rattle.build_plan.proofs.Visiting.{IsGathered}
use Rattle.build_plan.proofs.throwing.push_list.Given as goal

abbrev pub invariant-loop-number : goal.invariant-loop-number
invariant-loop-number l = IsGathered l.book.salvos l.list l.fn.from l.fn.throws.items l.number-index l.place l.throws.items
