use Rattle.std.proofs.Common.{subst, w64}
use Rattle.std.proofs.lemmas.Int.{to_z-of_z}
use Rattle.life_cells.specs.Cells.{alive}
use Rattle.recipe_hit.specs.Refusals.{HasNoHit, HitIsRefused}
use Rattle.find_salvo.proofs.Hits.{no_hit_of_nothing}
use Rattle.find_salvo.proofs.memo.hit_of.Goals as goal

pub returns-in-Err-Empty-clause-none : goal.returns-in-Err-Empty-clause-none
returns-in-Err-Empty-clause-none g c =
    no_hit_of_nothing (alive c.args.left.now) c.args.lane (subst (HitIsRefused (alive c.args.left.now) _) c.in-Err-Empty.field-0-is c.in-Err-Empty.ensures.refusal)

pub returns-in-Err-NotSettled-clause-none : goal.returns-in-Err-NotSettled-clause-none
returns-in-Err-NotSettled-clause-none g c =
    let refusal = subst (HitIsRefused (alive c.args.left.now) _) c.in-Err-NotSettled.field-0-is c.in-Err-NotSettled.ensures.refusal in
    subst (HasNoHit (alive c.args.left.now)) (to_z-of_z w64 c.args.lane c.ranges.lane) refusal.1.1
