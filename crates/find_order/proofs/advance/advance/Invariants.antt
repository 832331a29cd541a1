-- The numbers from a place on were the greatest, and are the least.
use Rattle.find_order.proofs.Passing.{IsPassed}
use Rattle.find_order.proofs.advance.advance.Given as goal

abbrev pub invariant-loop-place : goal.invariant-loop-place
invariant-loop-place l = IsPassed l.fn.low l.fn.high l.fn.list l.list l.place

abbrev pub decreases-loop-place : goal.decreases-loop-place
decreases-loop-place l = l.place
