use Rattle.std.proofs.Common.{inr}
use Rattle.rle_items.specs.Faults.{origin}
use Rattle.rle_items.specs.FineLaws.{fine_range}
use Rattle.rle_items.proofs.WholeWord.{goes_on}
use Rattle.rle_items.proofs.body.read_body.Goals as goal

pub returns-then-end-gt1-clause-refusal : goal.returns-then-end-gt1-clause-refusal
returns-then-end-gt1-clause-refusal c = inr (goes_on c.args.word.now c.in_ok-cells.cells c.in_ok-cells.end.now (rw c.new.ensures at c.in_ok-cells.ensures.read) c.offset-at.result c.if-end-gt1.true c.offset-at.ensures)

pub returns-clause-near : goal.returns-clause-near
returns-clause-near c =
    let read = rw c.new.ensures at c.in_ok-cells.ensures.read in
    fine_range origin read.items _ read.read.fine read.are_cells
