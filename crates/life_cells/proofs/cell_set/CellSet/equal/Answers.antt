use Rattle.std.proofs.Common.{sym, ◌∙◌}
use Rattle.life_cells.specs.SameLaws.{same_set_is, same_set-equal}
use Rattle.life_cells.proofs.cell_set.CellSet.equal.Goals as goal

pub returns : goal.returns
returns c = (λ h. same_set_is _ _ (sym c.eq.ensures ∙ h), λ h. c.eq.ensures ∙ same_set-equal _ _ h)
