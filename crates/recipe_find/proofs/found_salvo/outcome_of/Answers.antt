use Rattle.std.proofs.Common.{subst}
use Rattle.std.specs.Prelude.{IfOk, IfNone}
use Rattle.life_cells.specs.Cells.{alive}
use Rattle.find_salvo.specs.Salvos.{HasNoSalvo}
use Rattle.recipe_find.proofs.found_salvo.outcome_of.Goals as goal

pub returns-clause-none : goal.returns-clause-none
returns-clause-none g c = subst (λ lanes. IfOk c.outcome.result (λ found. IfNone found (HasNoSalvo (alive c.args.hits.now.hand) lanes))) c.items.ensures c.outcome.ensures.none
