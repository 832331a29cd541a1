use Rattle.std.proofs.Common.{ℤ, IfNone, ap, refl, subst, sym, to_z, of_z, w64}
use Rattle.std.proofs.lemmas.Int.{to_z-of_z}
use Rattle.life_cells.specs.Cells.{alive}
use Rattle.recipe_hit.specs.Refusals.{HasNoHit}
use Rattle.find_salvo.proofs.Options.{when_some}
use Rattle.find_salvo.proofs.Remembering.{none_answer, answer_from, same_answer}
use Rattle.find_salvo.proofs.memo.HitMemo.hit_of.Goals as goal

pub returns-in-Some-clause-none : goal.returns-in-Some-clause-none
returns-in-Some-clause-none g c =
    let told = when_some _ _ _ c.in-Some.is c.in_ok-known.ensures in
    none_answer _ _ c.in-Some.known (same_answer _ (alive c.args.left.now) _ c.args.lane _ c.in-Some.known (ap alive (sym c.in_ok-copy.ensures)) (sym (to_z-of_z w64 c.args.lane c.ranges.lane)) refl told)

pub remember-requires : goal.remember-requires
remember-requires g c =
    let made = answer_from (alive c.args.left.now) (to_z w64 (of_z w64 c.args.lane)) c.in_ok-made.made c.in_ok-made.ensures.some c.in_ok-made.ensures.none in
    same_answer _ _ _ _ _ _ (ap alive c.in_ok-copy.ensures) refl c.in_ok-copy_of.ensures made

pub returns-clause-none : goal.returns-clause-none
returns-clause-none g c =
    subst (λ (lane : ℤ). IfNone c.in_ok-made.made (HasNoHit (alive c.args.left.now) lane)) (to_z-of_z w64 c.args.lane c.ranges.lane) c.in_ok-made.ensures.none
