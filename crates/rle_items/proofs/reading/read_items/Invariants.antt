use Rattle.std.proofs.Common.{length}
use Rattle.rle_items.specs.Gaps.{gap_of}
use Rattle.rle_items.proofs.ReadItems.{IsSoFar}
use Rattle.rle_items.proofs.reading.read_items.Given as goal

abbrev pub invariant-loop-cells : goal.invariant-loop-cells
invariant-loop-cells l = IsSoFar (gap_of l.gaps) l.text l.place l.body l.rest l.cursor l.cells.items

abbrev pub decreases-loop-cells : goal.decreases-loop-cells
decreases-loop-cells l = length l.rest
