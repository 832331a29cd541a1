use Rattle.life_islands.specs.Search.{Adds}
use Rattle.life_islands.proofs.Adding.{IsBefore}
use Rattle.life_islands.proofs.search.add_all.Given as goal

abbrev pub invariant-loop-cell : goal.invariant-loop-cell
invariant-loop-cell l = Adds (IsBefore l.cells l.cell-index) l.initial.found.keys l.found.keys
