use Rattle.life_cells.specs.Listed.{listed}
use Rattle.life_cells.proofs.Closeness.{NoneUpTo}
use Rattle.life_cells.proofs.close.has_close.Given as goal

abbrev pub invariant-loop-dy : goal.invariant-loop-dy
invariant-loop-dy l = NoneUpTo (listed l.cells) l.it.x l.it.y l.dy
