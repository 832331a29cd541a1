-- The cells before the index are drawn, and the others are to come.
use Rattle.std.proofs.Common.{take, drop}
use Rattle.life_cells.specs.Cells.{IsRising}
use Rattle.life_rle.proofs.Growing.{IsDrawn, AreNext}
use Rattle.life_rle.proofs.drawing.items_of.Given as goal

abbrev pub invariant-loop-cell : goal.invariant-loop-cell
invariant-loop-cell l = record {
  drawn : IsDrawn l.fn.left l.fn.top (take l.cell-index l.cells) l.items.items l.run l.pen;
  next : AreNext l.fn.left l.pen (drop l.cell-index l.cells);
  rising : IsRising (drop l.cell-index l.cells);
}
