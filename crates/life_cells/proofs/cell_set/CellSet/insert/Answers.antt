use Rattle.std.proofs.Common.{◌≡◌, sym, ap, ◌∙◌, true, false, Ok, Err}
use Rattle.std.specs.Prelude.{not}
use Rattle.life_cells.proofs.Inserting.{search_is_alive, there_already, rising_inserted, alive_inserted}
use Rattle.life_cells.proofs.cell_set.CellSet.insert.Goals as goal

pub returns-in-Ok-clause-added : goal.returns-in-Ok-clause-added
returns-in-Ok-clause-added c =
    there_already c.args.self.now c.args.cell (sym (search_is_alive _ _ c.args.cell _ (Ok c.in-Ok.field-0) c.deref.ensures.value c.self.view_is c.self.invariant c.in-Ok.ensures.bound c.in-Ok.ensures.position))

pub returns-in-Ok-clause-was_new : goal.returns-in-Ok-clause-was_new
returns-in-Ok-clause-was_new c =
    ap not (search_is_alive _ _ c.args.cell _ (Ok c.in-Ok.field-0) c.deref.ensures.value c.self.view_is c.self.invariant c.in-Ok.ensures.bound c.in-Ok.ensures.position)

pub invariant_of-self-in-Err : goal.invariant_of-self-in-Err
invariant_of-self-in-Err c = rising_inserted _ _ _ c.args.cell c.in-Err.place c.deref.ensures.value c.self.invariant c.in-Err.ensures.bound c.in-Err.ensures.position c.in_ok-insert-in-Err.ensures.items

pub returns-in_ok-insert-in-Err-clause-added : goal.returns-in_ok-insert-in-Err-clause-added
returns-in_ok-insert-in-Err-clause-added c = alive_inserted _ _ _ _ _ c.self.view_is c.in_ok-insert-in-Err.ensures.items

pub returns-in_ok-insert-in-Err-clause-was_new : goal.returns-in_ok-insert-in-Err-clause-was_new
returns-in_ok-insert-in-Err-clause-was_new c =
    ap not (search_is_alive _ _ c.args.cell _ (Err c.in-Err.place) c.deref.ensures.value c.self.view_is c.self.invariant c.in-Err.ensures.bound c.in-Err.ensures.position)

pub returns-in_ok-insert-in-Err-clause-there : goal.returns-in_ok-insert-in-Err-clause-there
returns-in_ok-insert-in-Err-clause-there c = λ h.
    let absent = search_is_alive _ _ c.args.cell _ (Err c.in-Err.place) c.deref.ensures.value c.self.view_is c.self.invariant c.in-Err.ensures.bound c.in-Err.ensures.position in
    let no : false ≡ true = absent ∙ h in cc

pub returns-in_err-insert-in-Err-clause-there : goal.returns-in_err-insert-in-Err-clause-there
returns-in_err-insert-in-Err-clause-there c = λ h.
    let absent = search_is_alive _ _ c.args.cell _ (Err c.in-Err.place) c.deref.ensures.value c.self.view_is c.self.invariant c.in-Err.ensures.bound c.in-Err.ensures.position in
    let no : false ≡ true = absent ∙ h in cc
