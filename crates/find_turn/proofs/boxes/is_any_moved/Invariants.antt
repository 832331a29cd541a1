use Rattle.find_turn.proofs.KindBoxes.{NoneMoved}
use Rattle.find_turn.proofs.boxes.is_any_moved.Given as goal

abbrev pub invariant-loop-from : goal.invariant-loop-from
invariant-loop-from l = NoneMoved l.boxes l.to l.from-index
