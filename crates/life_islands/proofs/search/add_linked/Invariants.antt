use Rattle.life_cells.specs.Cells.{alive}
use Rattle.life_islands.proofs.Linking.{IsAddedTo}
use Rattle.life_islands.proofs.search.add_linked.Given as goal

abbrev pub invariant-loop-dy : goal.invariant-loop-dy
invariant-loop-dy l = IsAddedTo (alive l.cells) l.here l.dy l.initial.found.keys l.found.keys
