use Rattle.std.proofs.Common.{subst}
use Rattle.life_cells.specs.Cells.{alive}
use Rattle.recipe_hit.specs.Endless.{NeverStill}
use Rattle.recipe_hit.specs.FrontLaws.{transposed_never_still}
use Rattle.recipe_hit.proofs.leading.leads_across.Goals as goal

pub returns : goal.returns
returns c led = transposed_never_still (alive c.args.cells.now) (subst NeverStill c.in_ok-turned.ensures (c.leads-2.ensures led))
