use Rattle.life_cells.specs.Cells.{alive}
use Rattle.life_islands.proofs.Noting.{IsParted}
use Rattle.life_islands.proofs.parting.ranked_islands.Given as goal

abbrev pub invariant-loop-cell : goal.invariant-loop-cell
invariant-loop-cell l = IsParted (alive l.cells) l.cell-items l.cell-index l.seen.keys l.ranked.entries
