use Rattle.std.proofs.Common.{take, ◌∷◌}
use Rattle.life_cells.specs.Listed.{listed}
use Rattle.life_islands.specs.Ranks.{IsRankOf}
use Rattle.life_islands.proofs.rank.Rank.of.Given as goal

abbrev pub invariant-loop-cell : goal.invariant-loop-cell
invariant-loop-cell l = IsRankOf l.rank (listed (l.fn.start ∷ take l.cell-index l.cells))
