use Rattle.std.proofs.Common.{arith, refl, true}
use Rattle.std.specs.Prelude.{pos}
use Rattle.life_cells.specs.Cells.{cell}
use Rattle.std.proofs.lemmas.Option.{slice_get-get_or}
use Rattle.life_cells.specs.PlaceLaws.{live_at}
use Rattle.life_islands.proofs.Noting.{parting_begins, parting_stays, parting_grows, parting_ends, parting_is, seen_is}
use Rattle.life_islands.proofs.parting.ranked_islands.Goals.{then-not-contains+in_ok-add_island, else-not-contains}
use Rattle.life_islands.proofs.parting.ranked_islands.Goals as goal

pub loop-cell-init : goal.loop-cell-init
loop-cell-init c = parting_begins _ _ _ _ c.new-seen.ensures.empty c.new-ranked.ensures.empty

pub loop-cell-preserved : goal.loop-cell-preserved
loop-cell-preserved c =
    let next = cell (pos 0) (pos 0) in
    let here = slice_get-get_or c.cells-cell-items.result.now c.loop-cell.cell-index next c.loop-cell-test.true in
    elim c.if-not-contains.branch [
      | then-not-contains+in_ok-add_island w ↦ parting_is _ _ _ _ _ _ _ (λ i. (w.seen-is i).keys) (λ i. (w.ranked-is i).entries)
          (parting_grows _ _ _ _ _ _ _ _ c.loop-cell.invariant here w.in_ok-add_island.ensures.adds w.in_ok-add_island.ensures.ranked)
      | else-not-contains w ↦ parting_is _ _ _ _ _ _ _ (λ i. (w.seen-is i).keys) (λ i. (w.ranked-is i).entries)
          (parting_stays _ _ _ _ _ _ c.loop-cell.invariant here (seen_is c.cells-cell-items.result.now c.loop-cell.seen.keys c.loop-cell.cell-index next true w.if-not-contains.ensures refl))
    ]

pub returns : goal.returns
returns c = parting_ends _ _ _ _ _ c.cells-cell-items.ensures.order c.loop-cell.invariant (omega arith)

pub add_island-requires-clause-lives : goal.add_island-requires-clause-lives
add_island-requires-clause-lives c = live_at c.args.cells.now c.cells-cell-items.result.now c.cells-cell-items.ensures.order c.loop-cell.cell-index (cell (pos 0) (pos 0)) c.loop-cell-test.true
