use Rattle.std.proofs.lemmas.List.{nil_from_length}
use Rattle.std.proofs.Common.{sym, ap, ◌∙◌, length, eqb-true, eq-eqb}
use Rattle.life_cells.specs.Cells.{in_order}
use Rattle.life_cells.specs.Laws.{empty_of_none, in_order-empty}
use Rattle.life_cells.proofs.cell_set.CellSet.is_empty.Goals as goal

pub returns : goal.returns
returns c = (
  λ h. empty_of_none _ (sym c.cells.ensures.order ∙ nil_from_length _ (eqb-true _ _ (sym c.is_empty.ensures ∙ h))),
  λ h. let e = c.cells.ensures.order ∙ ap in_order h ∙ in_order-empty in c.is_empty.ensures ∙ eq-eqb _ _ (ap length e),
)
