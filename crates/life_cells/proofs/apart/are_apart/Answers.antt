use Rattle.std.proofs.Common.{refl}
use Rattle.std.specs.Prelude.{pos}
use Rattle.life_cells.specs.Cells.{cell}
use Rattle.life_cells.proofs.Closeness.{not_apart, apart_more}
use Rattle.life_cells.proofs.apart.are_apart.Goals as goal

pub returns-then-has_close : goal.returns-then-has_close
returns-then-has_close c = (λ h. absurd (cc), λ h. absurd (not_apart _ _ c.loop-cell.cell-index (cell (pos 0) (pos 0)) c.loop-cell-test.true (c.if-has_close.ensures.0 refl) h))

pub loop-cell-preserved : goal.loop-cell-preserved
loop-cell-preserved c = apart_more _ _ c.loop-cell.cell-index (cell (pos 0) (pos 0)) c.loop-cell-test.true (λ k. let e = c.if-has_close.ensures.1 k in absurd (cc)) c.loop-cell.invariant
