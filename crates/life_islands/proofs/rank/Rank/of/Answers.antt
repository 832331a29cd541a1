use Rattle.std.proofs.Common.{arith, take, ◌∷◌}
use Rattle.std.specs.Prelude.{pos}
use Rattle.life_cells.specs.Cells.{cell}
use Rattle.life_cells.specs.Listed.{listed}
use Rattle.life_islands.specs.Ranks.{IsRankOf}
use Rattle.life_islands.proofs.Ranking.{listed_more, start_in_range, next_in_range, listed_all}
use Rattle.life_islands.proofs.rank.Rank.of.Goals as goal

pub at-rank-requires : goal.at-rank-requires
at-rank-requires c = start_in_range _ _ _ c.requires

pub with-rank-requires : goal.with-rank-requires
with-rank-requires c = next_in_range _ _ _ _ (cell (pos 0) (pos 0)) c.requires c.loop-cell-test.true

pub loop-cell-preserved : goal.loop-cell-preserved
loop-cell-preserved c =
    listed_more (λ xs. IsRankOf c.with-rank.result (listed xs)) c.args.start c.args.cells.now c.loop-cell.cell-index (cell (pos 0) (pos 0)) c.loop-cell-test.true
    (c.with-rank.ensures (c.args.start ∷ take c.loop-cell.cell-index c.args.cells.now) c.loop-cell.invariant)

pub returns : goal.returns
returns c = listed_all (λ xs. IsRankOf c.loop-cell.rank (listed xs)) c.args.start c.args.cells.now c.loop-cell.cell-index (omega arith) c.loop-cell.invariant
