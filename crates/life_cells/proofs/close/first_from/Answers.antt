use Rattle.std.proofs.Common.{arith, sym}
use Rattle.std.specs.Prelude.{pos}
use Rattle.life_cells.specs.Cells.{cell}
use Rattle.life_cells.proofs.Closeness.{upper_half, lower_half}
use Rattle.life_cells.proofs.close.first_from.Goals as goal

pub halves-preserved-then-comes_before : goal.halves-preserved-then-comes_before
halves-preserved-then-comes_before c = upper_half _ _ _ _ _ (cell (pos 0) (pos 0)) c.requires c.halves.invariant (omega arith) (omega arith) (sym c.if-comes_before.ensures)

pub halves-preserved : goal.halves-preserved
halves-preserved c = lower_half _ _ _ _ _ (cell (pos 0) (pos 0)) c.requires c.halves.invariant (omega arith) (omega arith) (sym c.if-comes_before.ensures)
