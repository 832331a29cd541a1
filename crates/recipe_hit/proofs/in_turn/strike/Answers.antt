use Rattle.std.proofs.Common.{refl, subst, w64}
use Rattle.std.proofs.lemmas.Int.{to_z-of_z}
use Rattle.life_cells.specs.Cells.{alive}
use Rattle.recipe_hit.specs.Refusals.{HasNoHit, HitIsRefused}
use Rattle.recipe_hit.proofs.in_turn.strike.Goals as goal

pub returns-in-Err-NotSettled-clause-refusal : goal.returns-in-Err-NotSettled-clause-refusal
returns-in-Err-NotSettled-clause-refusal g c =
    let refusal = subst (HitIsRefused (alive c.args.struck.now) _) c.in-Err-NotSettled.field-0-is c.in-Err-NotSettled.ensures.refusal in
    (refl, (refusal.1.0, subst (HasNoHit (alive c.args.struck.now)) (to_z-of_z w64 c.args.lane c.ranges.lane) refusal.1.1))
