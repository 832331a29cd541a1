use Rattle.std.proofs.Common.{sym, ◌∙◌, subst}
use Rattle.life_cells.specs.Cells.{IsRising}
use Rattle.life_cells.specs.Laws.{in_order_is}
use Rattle.life_cells.proofs.cell_set.CellSet.cells.Goals as goal

pub returns-clause-order : goal.returns-clause-order
returns-clause-order c = c.deref.ensures.value ∙ sym (in_order_is _ _ c.self.view_is c.self.invariant)

pub returns-clause-rising : goal.returns-clause-rising
returns-clause-rising c = subst IsRising (sym c.deref.ensures.value) c.self.invariant
