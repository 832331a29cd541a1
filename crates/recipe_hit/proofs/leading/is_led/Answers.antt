use Rattle.std.proofs.Common.{subst}
use Rattle.std.proofs.lemmas.Result.{IfOk-weaker}
use Rattle.life_cells.specs.Cells.{alive}
use Rattle.recipe_hit.specs.Endless.{NeverStill}
use Rattle.recipe_hit.specs.FrontLaws.{mirrored_never_still}
use Rattle.recipe_hit.proofs.leading.is_led.Goals as goal

pub returns : goal.returns
returns c = IfOk-weaker c.leads_across-2.result _ _ (λ led h yes. mirrored_never_still (alive c.args.cells.now) (subst NeverStill c.in_ok-turned.ensures (h yes))) c.leads_across-2.ensures
