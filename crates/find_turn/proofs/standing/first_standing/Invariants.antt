use Rattle.life_cells.specs.Cells.{alive}
use Rattle.find_turn.proofs.KindsInOrder.{NoneUpTo}
use Rattle.find_turn.proofs.standing.first_standing.Given as goal

abbrev pub invariant-loop-place : goal.invariant-loop-place
invariant-loop-place l = NoneUpTo l.kinds (alive l.cells) l.place
