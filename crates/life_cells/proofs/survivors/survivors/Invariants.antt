use Rattle.life_cells.specs.Survivors.{lives_with}
use Rattle.life_cells.proofs.Runs.{IsWalk}
use Rattle.life_cells.proofs.survivors.survivors.Given as goal

abbrev pub invariant-loop-mark : goal.invariant-loop-mark
invariant-loop-mark l = IsWalk (lives_with l.live) l.marks l.rest l.mark-index l.place l.times l.next.items
